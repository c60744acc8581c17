use Rattle.schema.proofs.Prelude.{ℕ, ◌<◌, HasCell}
use Rattle.schema.proofs.located_cells.column_at.Given as goal

abbrev pub invariant-loop-column : goal.invariant-loop-column
invariant-loop-column l = (column : ℕ) → column < l.column → HasCell l.layout l.table l.row column l.offset → ⊥
