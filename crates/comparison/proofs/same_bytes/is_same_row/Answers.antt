use Rattle.comparison.proofs.Prelude.{source_of, row_count}
use Rattle.comparison.proofs.AlikeLemmas.{row_decided}
use Rattle.comparison.proofs.same_bytes.is_same_row.Goals as goal

pub have_same_bytes-requires-clause-layout : goal.have_same_bytes-requires-clause-layout
have_same_bytes-requires-clause-layout c = (c.requires.alike c.if-not-alike.false).layout

pub returns : goal.returns
unfolding row_count
returns c = λ same ignored first second is also.
    row_decided c.cells_are_tested.ensures c.cells_are_one.ensures (source_of c.args.left.now) (source_of c.args.right.now) first second c.args.table
    (c.requires.alike c.if-not-alike.false) (λ cell_index lt. (c.cells_have_columns.ensures.column c.args.table cell_index lt).0)
    (c.models_are_read.ensures.cells c.args.left.now first is c.args.table) (c.models_are_read.ensures.cells c.args.right.now second also c.args.table)
    ignored c.args.row c.requires.first c.requires.last (c.have_same_bytes.ensures same) (c.has_null_start.ensures c.if-has_null_start.false)
