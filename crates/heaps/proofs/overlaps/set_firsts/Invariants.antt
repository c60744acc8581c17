use Rattle.heaps.proofs.Prelude.{◌≡◌, ℕ, List, All, length, AreEarlierBlobs, IsKey}
use Rattle.heaps.proofs.overlaps.set_firsts.Given as goal

abbrev pub invariant-loop-key : goal.invariant-loop-key
invariant-loop-key l = record {
  len : length l.firsts ≡ length l.fn.firsts;
  before : (heap indexes : List ℕ) (width : ℕ) → All (IsKey heap indexes width) l.keys → IsKey heap indexes width l.earlier;
  earlier : (heap indexes : List ℕ) (width : ℕ) → All (IsKey heap indexes width) l.keys → AreEarlierBlobs heap indexes l.fn.firsts
      → AreEarlierBlobs heap indexes l.firsts;
}
