use Rattle.comparison.proofs.Prelude.{◌≡◌, ℕ, ◌<◌, get_or, Module, tables, rows_in}
use Rattle.comparison.proofs.same_bytes.have_same_layout.Given as goal

abbrev pub invariant-loop-table : goal.invariant-loop-table
invariant-loop-table l = (k : ℕ) → k < l.table-index → rows_in l.left.source (get_or tables k Module) ≡ rows_in l.right.source (get_or tables k Module)
