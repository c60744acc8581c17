use Rattle.tables.proofs.Prelude.{◌≡◌, ℕ, ◌≤◌, ◌-◌, key_in}
use Rattle.tables.proofs.order.never_falls.Given as goal

abbrev pub invariant-loop-row : goal.invariant-loop-row
invariant-loop-row l = record {
  rising : (row : ℕ) → 2 ≤ row → row ≤ l.row-index → key_in l.fn.tables l.fn.table l.cell_index (row - 1) ≤ key_in l.fn.tables l.fn.table l.cell_index row;
  none : l.row-index ≡ 0 → l.before ≡ 0;
  before : 1 ≤ l.row-index → l.before ≡ key_in l.fn.tables l.fn.table l.cell_index l.row-index;
}
