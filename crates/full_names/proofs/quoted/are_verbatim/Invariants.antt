use Rattle.full_names.proofs.Prelude.{ℕ, ◌<◌, IsTrue, slice_index, is_verbatim}
use Rattle.full_names.proofs.quoted.are_verbatim.Given as goal

abbrev pub invariant-loop-byte : goal.invariant-loop-byte
invariant-loop-byte l = IsTrue l.all → (k : ℕ) → k < l.byte-index → IsTrue (is_verbatim (slice_index l.text k))
