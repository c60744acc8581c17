-- Sums of the numbers below one, and the lengths of blobs.
use Rattle.checks.proofs.Prelude.{◌≡◌, ℕ, zero, suc, ◌+◌, ◌<◌, ◌≤◌, List, ◌++◌, length, drop, Some, inl, inr, refl, subst, sym, ap, ◌∙◌, true, add-one, arith, nat_le, cases_eq, nat_tests, IsPacked, IsBlob, IsCounted, sum_below, counted_length, blob_length}
use Rattle.std.proofs.lemmas.List.{length-append}
use Rattle.std.proofs.Math.Seq.{drop-append_seam}
use Rattle.packed.specs.Prefix.{unsigned_at}

pub sum_none : (f : ℕ → ℕ) → sum_below f 0 ≡ 0
unfolding sum_below
sum_none f = refl

pub sum_more : (f : ℕ → ℕ) (n : ℕ) → sum_below f (n + 1) ≡ sum_below f n + f n
unfolding sum_below
sum_more f n = rw add-one refl

-- the sum of fewer numbers is not greater
pub sum_fewer : (f : ℕ → ℕ) (m n : ℕ) → m ≤ n → sum_below f m ≤ sum_below f n
unfolding sum_below
sum_fewer f zero zero few = omega arith
sum_fewer f (suc m) zero few = absurd (omega arith)
sum_fewer f m (suc n) few = elim (cases_eq m (suc n)) [
  | inl same ↦ (let P : ℕ → Type 0 = λ k. sum_below f k ≤ sum_below f (suc n) in subst P (sym same) (omega arith))
  | inr other ↦ (let fewer : sum_below f m ≤ sum_below f n = sum_fewer f m n (omega arith) in omega arith)
]

-- a number that is one of the summands
pub sum_step : (f : ℕ → ℕ) (k n : ℕ) → k < n → sum_below f k + f k ≤ sum_below f n
sum_step f k n below = omega (arith, sum_fewer f (k + 1) n (omega arith), sum_more f k)

-- a sum of nothing
pub sum_nothing : (f : ℕ → ℕ) → ((k : ℕ) → f k ≡ 0) → (n : ℕ) → sum_below f n ≡ 0
unfolding sum_below
sum_nothing f none zero = refl
sum_nothing f none (suc n) = omega (arith, sum_nothing f none n, none n)

-- a sum of summands that are not greater
pub sum_each : (f g : ℕ → ℕ) → ((k : ℕ) → f k ≤ g k) → (n : ℕ) → sum_below f n ≤ sum_below g n
unfolding sum_below
sum_each f g each zero = omega arith
sum_each f g each (suc n) = omega (arith, sum_each f g each n, each n)

module _ (read : (n : ℕ) (prefix tail : List ℕ) → IsPacked n prefix → unsigned_at (prefix ++ tail) ≡ Some (n, length prefix)) where
  -- the number of the bytes after a count is the count
  counted_is : (count bytes after : List ℕ) → IsPacked (length bytes) count → counted_length (count ++ (bytes ++ after)) ≡ length bytes
  unfolding counted_length
  counted_is count bytes after packed =
      let all : length (count ++ (bytes ++ after)) ≡ length count + (length bytes + length after) = simp length-append in
      let fits : nat_le (length count + length bytes) (length (count ++ (bytes ++ after))) ≡ true = grind (arith, nat_tests, all) in
      rw (read (length bytes) count (bytes ++ after) packed, fits) refl

  -- the blob of an index has the counted number of bytes
  pub blob_is : (heap : List ℕ) (index : ℕ) (blob : List ℕ) → IsBlob heap index blob → blob_length heap index ≡ length blob
  blob_is heap index blob (inl none) = rw (none.0, none.1) refl
  blob_is heap zero blob (inr some) = absurd (omega (arith, some.0))
  blob_is heap (suc k) blob (inr some) =
      let at : IsCounted heap (suc k) blob = some.1 in
      let behind : drop (suc k) heap ≡ at.count ++ (blob ++ at.after) =
      ap (λ n. drop n heap) (sym at.at) ∙ ap (λ (h : List ℕ). drop (length at.before) h) at.whole
      ∙ drop-append_seam at.before (at.count ++ (blob ++ at.after)) in
      ap counted_length behind ∙ counted_is at.count blob at.after at.counts
