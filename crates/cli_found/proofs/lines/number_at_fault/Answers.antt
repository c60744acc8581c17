use Rattle.cli_found.proofs.Prelude.{inl, inr, refl}
use Rattle.packed.proofs.RuleLemmas.{none_fails}
use Rattle.cli_files.specs.Checked.{rules_before}
use Rattle.cli_found.proofs.lines.number_at_fault.Goals as goal

pub returns-in_err-lead_at : goal.returns-in_err-lead_at
returns-in_err-lead_at c = rw (c.from_residual.ensures, ← c.in-Some.ensures.size, ← c.in_err-lead_at.ensures) refl

pub returns-in-Some : goal.returns-in-Some
returns-in-Some c = rw (← c.in-Some.ensures.size, ← c.in_ok-lead_at.ensures) refl

pub returns-in_err-last_of : goal.returns-in_err-last_of
returns-in_err-last_of c = rw (c.from_residual-in_err-last_of.ensures, ← c.in_default.ensures.size, ← c.in_err-last_of.ensures) refl

pub returns-in_err-cell : goal.returns-in_err-cell
returns-in_err-cell c = rw (c.from_residual-in_err-cell.ensures, ← c.in_default.ensures.size, ← c.in_ok-last_of.ensures, ← c.in_err-cell.ensures) refl

pub returns-in_default-rows_of : goal.returns-in_default-rows_of
returns-in_default-rows_of c =
    rw (← c.in_default.ensures.size, ← c.in_ok-last_of.ensures, ← c.in_ok-cell.ensures)
    (inr ((λ all. none_fails (rules_before c.args.input c.args.bytes.now) c.in_default-rows_of.field-0 all c.in_default-rows_of.ensures.reports), refl))

pub returns : goal.returns
returns c =
    rw (← c.in_default.ensures.size, ← c.in_ok-last_of.ensures, ← c.in_ok-cell.ensures)
    (inl (c.in-Ok.ensures.reports, rw c.in-Ok.ensures.source at c.number_of_cell.ensures))
