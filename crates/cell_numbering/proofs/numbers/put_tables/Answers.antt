use Rattle.cell_numbering.proofs.Prelude.{◌+◌, ◌<◌, ◌≤◌, List, length, get_or, drop, ap, ◌∙◌, arith, TableId, Module, tables, columns_of, rows_of, SoFar, with_rows, with_tables}
use Rattle.cell_numbering.proofs.CellIndexLemmas.{next_left, none_left}
use Rattle.cell_numbering.proofs.numbers.put_tables.Goals as goal

pub loop-table-preserved : goal.loop-table-preserved
loop-table-preserved g c = λ model is.
    let indexes = c.args.indexes in
    let i = c.loop-table.table-index in
    let items = c.all-table-items in
    let below : i < length tables = omega (arith, ap length items.ensures.value, c.loop-table-test.true) in
    let at = ap (λ (listed : List TableId). get_or listed i Module) items.ensures.value in
    ap (λ (n : SoFar). with_tables indexes model (drop (i + 1) tables) n)
    (c.in_ok-put_rows.ensures model is ∙ ap (λ (t : TableId). with_rows indexes (columns_of t) (rows_of model t) c.loop-table.so_far) at)
    ∙ next_left (λ (listed : List TableId). with_tables indexes model listed c.loop-table.so_far) tables i Module _ below (c.loop-table.invariant model is)

pub returns : goal.returns
returns g c = λ model is.
    let i = c.loop-table.table-index in
    let past : length tables ≤ i = omega (arith, ap length c.all-table-items.ensures.value, c.loop-table-test.false) in
    none_left (λ (listed : List TableId). with_tables c.args.indexes model listed c.loop-table.so_far) tables i _ past (c.loop-table.invariant model is)
