use Rattle.tables.proofs.Prelude.{ℕ, ◌<◌, ◌≤◌, ◌-◌, count_in, key_in}
use Rattle.metadata.specs.Lookups.{IsKeyCell}
use Rattle.tables.proofs.order.never_fall.Given as goal

abbrev pub invariant-loop-cell_index : goal.invariant-loop-cell_index
invariant-loop-cell_index l =
    (cell_index row : ℕ) → cell_index < l.cell_index → IsKeyCell l.table cell_index → 2 ≤ row → row ≤ count_in l.tables l.table
    → key_in l.tables l.table cell_index (row - 1) ≤ key_in l.tables l.table cell_index row
