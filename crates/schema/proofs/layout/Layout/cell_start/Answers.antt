use Rattle.schema.proofs.Prelude.{[], false, arith, TableLayout, U8, sizes_kept}
use Rattle.schema.proofs.TableLayoutLemmas.{table_layout_kept, cell_at, cell_within}
use Rattle.schema.proofs.layout.Layout.cell_start.Goals as goal

pub returns : goal.returns
returns c =
    let sizes = sizes_kept c.self.inside.header in
    let none : TableLayout = record { start = 0; row_width = 0; offsets = [] } in
    let kept = table_layout_kept sizes c.self.inside.table_layouts c.self.invariant c.args.table c.table_index.result none c.table_index.ensures.value in
    let value = cell_at sizes c.args.self.now c.args.table c.args.row c.args.column _ kept c.self.view_is c.requires.column in
    let within = cell_within c.args.self.now c.args.table c.args.row c.args.column (record { kind = U8; nullable = false }) c.requires.first c.requires.last c.requires.column in
    record { value = value; within = omega (arith, value, within) }
