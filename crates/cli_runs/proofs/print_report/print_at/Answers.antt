use Rattle.std.proofs.Common.{◌∙◌, inl, refl, sym}
use Rattle.cli_runs.proofs.print_report.print_at.Goals as goal

pub returns-in-Ok-Something : goal.returns-in-Ok-Something
returns-in-Ok-Something g c =
    let at = c.in-Ok-Something.ensures in
    (at.0, (at.1, at.2, sym c.in-Ok-Something.field-0-is ∙ at.3, at.4))

pub returns-in-Ok-Nothing : goal.returns-in-Ok-Nothing
returns-in-Ok-Nothing g c =
    let at = c.in-Ok-Nothing.ensures in
    inl (refl, at.0, (at.1, at.2, sym c.in-Ok-Nothing.field-0-is ∙ at.3, at.4))
