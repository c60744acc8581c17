use Rattle.cli_runs.proofs.Prelude.{◌∙◌, map, refl, seen, sym}
use Rattle.cli_runs.proofs.print_check.end_at_fault.Goals as goal

pub returns-then-is_reported : goal.returns-then-is_reported
returns-then-is_reported g c = ((sym c.is_reported.ensures ∙ c.if-is_reported.true, c.requires), refl)

pub returns-in-Ok : goal.returns-in-Ok
returns-in-Ok g c =
    let are = rw (sym c.deref.ensures.value) at c.in-Ok.ensures in
    rw c.in-Explained.is (refl, refl, (c.args.fault, c.requires, (map seen c.deref.result.now, are, c.print_fault.ensures)))
