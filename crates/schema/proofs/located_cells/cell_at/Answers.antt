use Rattle.schema.proofs.Prelude.{ℕ, List, get_or, ap, sym, subst, arith, below_more, TableId, Module, table_index_of, tables, HasCell}
use Rattle.schema.proofs.located_cells.cell_at.Goals as goal

pub loop-table-preserved : goal.loop-table-preserved
loop-table-preserved c =
    let here = ap (λ (listed : List TableId). get_or listed c.loop-table.table-index Module) c.all-table-items.ensures.value in
    below_more (λ (k : ℕ). (row column : ℕ) → HasCell c.args.layout.now (get_or tables k Module) row column c.args.offset → ⊥) c.loop-table.table-index c.loop-table.invariant
    (λ row column has. c.in_default.ensures.none row column (subst (λ (table : TableId). HasCell c.args.layout.now table row column c.args.offset) (sym here) has))

pub returns-in-Some-clause-sound : goal.returns-in-Some-clause-sound
returns-in-Some-clause-sound c =
    subst (λ (table : TableId). HasCell c.args.layout.now table c.in-Some.cell.row c.in-Some.cell.column c.args.offset) (sym c.in-Some.ensures.table) c.in-Some.ensures.sound

pub returns-clause-none : goal.returns-clause-none
returns-clause-none c = λ table row column has.
    c.loop-table.invariant (table_index_of table) (omega (arith, c.tables_stand.ensures.table_index table)) row column
    (subst (λ (t : TableId). HasCell c.args.layout.now t row column c.args.offset) (sym (c.tables_stand.ensures.stand table)) has)
