use Rattle.schema.proofs.Prelude.{ℕ, ◌<◌, get_or, Module, tables, HasCell}
use Rattle.schema.proofs.located_cells.cell_at.Given as goal

abbrev pub invariant-loop-table : goal.invariant-loop-table
invariant-loop-table l = (k : ℕ) → k < l.table-index → (row column : ℕ) → HasCell l.layout (get_or tables k Module) row column l.offset → ⊥
