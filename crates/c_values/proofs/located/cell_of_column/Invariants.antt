use Rattle.c_values.proofs.Prelude.{◌≡◌, ℕ, ◌<◌, column_of}
use Rattle.c_values.proofs.located.cell_of_column.Given as goal

-- no earlier cell is of the column
abbrev pub invariant-loop-cell : goal.invariant-loop-cell
invariant-loop-cell l = (cell : ℕ) → cell < l.cell → column_of l.table cell ≡ l.column → ⊥
