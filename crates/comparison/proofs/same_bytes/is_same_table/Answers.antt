use Rattle.comparison.proofs.Prelude.{◌+◌, ◌∙◌, ℕ, ap, source_of}
use Rattle.comparison.proofs.AlikeLemmas.{table_decided}
use Rattle.comparison.proofs.same_bytes.is_same_table.Goals as goal

pub have_same_bytes-requires-clause-layout : goal.have_same_bytes-requires-clause-layout
have_same_bytes-requires-clause-layout c = (c.requires c.if-not-alike.false).layout

pub returns : goal.returns
returns c = λ same ignored first second is also.
    let counted = c.models_are_read.ensures.count c.args.left.now first is c.args.table in
    table_decided c.cells_are_tested.ensures c.cells_are_one.ensures (source_of c.args.left.now) (source_of c.args.right.now) first second c.args.table
    (c.requires c.if-not-alike.false) (λ cell_index lt. (c.cells_have_columns.ensures.column c.args.table cell_index lt).0)
    (c.models_are_read.ensures.cells c.args.left.now first is c.args.table) (c.models_are_read.ensures.cells c.args.right.now second also c.args.table)
    ignored counted (c.count-past.result + 1) (ap (λ (n : ℕ). n + 1) (c.count-past.ensures.model first is ∙ counted)) (c.have_same_bytes.ensures same)
