use Rattle.schema.proofs.Prelude.{◌∙◌, ap, [], TableLayout, Sizes, row_width, sizes_kept}
use Rattle.schema.proofs.TableLayoutLemmas.{table_layout_kept}
use Rattle.schema.proofs.layout.Layout.row_width.Goals as goal

pub returns : goal.returns
returns c =
    let none : TableLayout = record { start = 0; row_width = 0; offsets = [] } in
    let kept = table_layout_kept (sizes_kept c.self.inside.header) c.self.inside.table_layouts c.self.invariant c.args.table c.table_index.result none c.table_index.ensures.value in
    kept.row_width ∙ ap (λ (s : Sizes). row_width s c.args.table) c.self.view_is
