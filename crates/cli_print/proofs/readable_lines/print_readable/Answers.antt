use Rattle.cli_print.proofs.Prelude.{[], inl, inr, refl, none_fails}
use Rattle.pe.specs.Rules.{rules_of_image}
use Rattle.cli_print.proofs.readable_lines.print_readable.Goals as goal

pub returns-in-Err : goal.returns-in-Err
returns-in-Err g c = rw c.in-File.is (
  [],
  inl ((λ all. none_fails (rules_of_image c.args.bytes.now) c.in-Err.field-0 all c.in-Err.ensures.first_error), refl),
  c.lines_follow.ensures.nothing c.args.out.now,
)

pub returns-in-Ok : goal.returns-in-Ok
returns-in-Ok g c =
    let more = c.print_readable_image.ensures in
    rw c.in-File.is (more.0, inr (c.in-Ok.ensures.all.0, rw c.in-Ok.ensures.all.1 at more.1), more.2)
