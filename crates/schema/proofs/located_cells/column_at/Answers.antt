use Rattle.schema.proofs.Prelude.{arith, HasCell}
use borrow.Author.Count.{below_more}
use Rattle.schema.proofs.located_cells.column_at.Goals as goal
use Rattle.schema.proofs.located_cells.column_at.Goals.{else-start-offset-via-then-start-offset+else-offset-start, else-start-offset-via-else-start-offset}

pub loop-column-preserved : goal.loop-column-preserved
loop-column-preserved c = below_more (λ column. HasCell c.args.layout.now c.args.table c.args.row column c.args.offset → ⊥) c.loop-column.column c.loop-column.invariant (λ has.
    elim c.else-start-offset.branch [
      | else-start-offset-via-then-start-offset+else-offset-start w ↦ omega (arith, has.from, has.before, c.cell_start-start.ensures.value, w.cell_width.ensures.value, w.if-offset-start.false)
      | else-start-offset-via-else-start-offset w ↦ omega (arith, has.from, c.cell_start-start.ensures.value, w.if-start-offset.false)
    ])
