use Rattle.cli_cells.proofs.Prelude.{[], ◌∙◌, inl, inr, refl, none_fails, rules_before, source_in, lines_before, content_at}
use Rattle.cli_cells.proofs.until_fault.print_until_fault.Goals as goal

pub returns-in_default-clause-before : goal.returns-in_default-clause-before
returns-in_default-clause-before g c =
    ([], inr ((λ all. none_fails (rules_before c.args.input c.args.bytes.now) _ all c.in_default.ensures.reports), refl), c.lines_follow.ensures.nothing _)

pub returns-in-Ok-rows_of-clause-before : goal.returns-in-Ok-rows_of-clause-before
returns-in-Ok-rows_of-clause-before g c =
    let rows = c.new-rows.result in
    let is = c.in-Ok-rows_of.ensures.source in (
      lines_before c.args.names (source_in c.args.input c.args.bytes.now).source rows.broken c.args.tables.now,
      inl (c.in-Ok-rows_of.ensures.reports, rows.broken, rw is at c.new-rows.ensures.broken, refl),
      rw (c.new-rows.ensures.here ∙ is) at (c.print_tables.ensures (content_at rows.here.source) refl),
    )
