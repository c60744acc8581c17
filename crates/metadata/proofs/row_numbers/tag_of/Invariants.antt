use Rattle.metadata.proofs.Prelude.{◌≡◌, ℕ, ◌<◌, false, None, slice_index_or, is_table}
use Rattle.metadata.proofs.row_numbers.tag_of.Given as goal

abbrev pub invariant-loop-tag : goal.invariant-loop-tag
invariant-loop-tag l = (k : ℕ) → k < l.tag → is_table l.table (slice_index_or l.listed k None) ≡ false
