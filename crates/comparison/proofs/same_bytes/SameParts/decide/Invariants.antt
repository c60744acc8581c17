use Rattle.comparison.proofs.Prelude.{ℕ, ◌<◌, column_at, Source, AreSameParts, HaveSameHeap}
use Rattle.comparison.proofs.same_bytes.SameParts.decide.Given as goal

abbrev pub invariant-loop-column : goal.invariant-loop-column
invariant-loop-column l = (left right : Source) → AreSameParts left right l.self → (column : ℕ) → column < l.column → HaveSameHeap left right (column_at l.table column).kind
