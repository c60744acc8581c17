use Rattle.schema.proofs.Prelude.{[], TableLayout, sizes_kept}
use Rattle.schema.proofs.TableLayoutLemmas.{table_layout_kept, row_at}
use Rattle.schema.proofs.layout.Layout.row_start.Goals as goal

pub returns : goal.returns
returns c =
    let sizes = sizes_kept c.self.inside.header in
    let none : TableLayout = record { start = 0; row_width = 0; offsets = [] } in
    let kept = table_layout_kept sizes c.self.inside.table_layouts c.self.invariant c.args.table c.table_index.result none c.table_index.ensures.value in
    row_at sizes c.args.self.now c.args.table c.args.row _ kept c.self.view_is
