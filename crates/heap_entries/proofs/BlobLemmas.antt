-- What an index of a blob names in its heap.
use Rattle.heap_entries.proofs.Prelude.{◌≡◌, ℕ, ◌<◌, List, ◌++◌, drop, inl, inr, ap, ◌∙◌, arith, drop_at, IsCounted, IsBlob}

-- after the offset follow the packed length, the bytes and the remainder of the heap
pub counted_behind : (heap : List ℕ) (index : ℕ) (bytes : List ℕ) → (e : IsCounted heap index bytes) → drop index heap ≡ e.count ++ (bytes ++ e.after)
counted_behind heap index bytes e = ap (drop index) e.whole ∙ drop_at e.before (e.count ++ (bytes ++ e.after)) index e.at

-- a blob at an index above 0 has its packed length there
pub blob_counted : (heap : List ℕ) (index : ℕ) (blob : List ℕ) → 0 < index → IsBlob heap index blob → IsCounted heap index blob
blob_counted heap index blob some (inl none) = absurd (omega (arith, none.0))
blob_counted heap index blob some (inr is) = is.1
