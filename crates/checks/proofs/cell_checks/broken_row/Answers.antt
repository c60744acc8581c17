use Rattle.checks.proofs.Prelude.{sym, ap, ◌∙◌, is_utf8}
use Rattle.checks.proofs.SpendingTexts.{nothing_taken}
use Rattle.checks.proofs.cell_checks.broken_row.Goals as goal

pub returns-then-is_utf8-clause-takes : goal.returns-then-is_utf8-clause-takes
returns-then-is_utf8-clause-takes c =
    nothing_taken c.args.source.now.source (sym (c.is_utf8.ensures ∙ ap is_utf8 c.strings.ensures) ∙ c.if-is_utf8.true) c.args.table c.broken_from.result c.args.budget.now
