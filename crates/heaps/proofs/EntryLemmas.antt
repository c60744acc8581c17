-- Entries of a blob heap whose windows are equal (ECMA-335 II.24.2.4).
use Rattle.std.proofs.Common.{◌≡◌, ℕ, ◌+◌, ◌-◌, ◌<◌, ◌≤◌, ◌⊎◌, List, [], ◌∷◌, ◌++◌, All, IsPermutation, length, take, drop, set, slice_index, sym, ap, subst, ◌∙◌, inr, ⊎_elim, arith, append_assoc, length-append, length-take-le, take-append-drop, take_at, get_or-set_same, get_or-set_other}
use Rattle.heap_entries.proofs.BlobLemmas.{counted_behind}
use Rattle.heaps.proofs.Prelude.{cases_eq, All-push, IsCounted, AreEarlierBlobs, IsKey, IsKeyAt, IsSameBlob, window}
use Rattle.std.proofs.lemmas.List.Sorted.{All-permutation}
use Rattle.heaps.specs.declared.overlaps.Key.{Key}
use Rattle.heaps.proofs.WindowLemmas.{cover}

-- the window of an entry
entry_window : (heap : List ℕ) (index n : ℕ) (blob : List ℕ) (counted : IsCounted heap index blob) → n ≡ length counted.count + length blob
    → window heap n index ≡ counted.count ++ blob
entry_window heap index n blob counted long =
    let entry = counted.count ++ blob in
    ap (take n) (counted_behind heap index blob counted)
    ∙ ap (take n) (sym (append_assoc counted.count blob counted.after))
    ∙ take_at entry counted.after n (length-append counted.count blob ∙ sym long)

-- an entry is at an index with its window
counted_moved : (heap : List ℕ) (first second n : ℕ) → first ≤ length heap → window heap n first ≡ window heap n second → (blob : List ℕ) (counted : IsCounted heap second blob)
    → n ≡ length counted.count + length blob → IsCounted heap first blob
counted_moved heap first second n within same blob counted long =
    let from = drop first heap in
    record {
      before = take first heap;
      count = counted.count;
      after = drop n from;
      whole = sym (take-append-drop first heap)
          ∙ ap (λ l. take first heap ++ l) (sym (take-append-drop n from) ∙ ap (λ l. l ++ drop n from) (same ∙ entry_window heap second n blob counted long) ∙ append_assoc counted.count blob (drop n from));
      at = length-take-le first heap within;
      counts = counted.counts;
    }

pub same_blob : (heap : List ℕ) (width first second : ℕ) (earlier key : Key) → IsKeyAt heap width first earlier → IsKeyAt heap width second key
    → earlier.len ≡ key.len → earlier.first ≡ key.first → earlier.last ≡ key.last → IsSameBlob heap first second
same_blob heap width first second earlier key own other len starts ends =
    let n = key.len in
    let own_end = subst (λ m. window heap width (first + (m - width)) ≡ window heap width earlier.last) len own.last in
    let same = cover heap width n first second other.low other.high
    (own.first ∙ ap (window heap width) starts ∙ sym other.first)
    (own_end ∙ ap (window heap width) ends ∙ sym other.last) in
    record {
      first_in = own.from;
      second_in = other.from;
      same = λ blob stands. ⊎_elim
          (λ none. absurd (omega (arith, none.0, other.from)))
          (λ some. inr (own.from, counted_moved heap first second n own.within same blob some.1 (other.entry blob some.1)))
          stands;
    }

-- one more use gets an earlier one
pub earlier_set : (heap indexes earlier : List ℕ) (use_index first : ℕ) → AreEarlierBlobs heap indexes earlier → use_index < length earlier → first < use_index
    → IsSameBlob heap (slice_index indexes first) (slice_index indexes use_index) → AreEarlierBlobs heap indexes (set earlier use_index first)
earlier_set heap indexes earlier use_index first kept within low same = λ k below.
    let P : ℕ → ℕ → Type 0 = λ i j. (j ≡ i) ⊎ ((j < i) × IsSameBlob heap (slice_index indexes j) (slice_index indexes i)) in
    ⊎_elim
    (λ (e : k ≡ use_index). subst (λ i. P i (slice_index (set earlier use_index first) i)) (sym e)
    (subst (P use_index) (sym (get_or-set_same earlier use_index first 0 within)) (inr (low, same))))
    (λ other. subst (P k) (sym (get_or-set_other earlier use_index k first 0 other)) (kept k below))
    (cases_eq k use_index)

pub key_added : (heap indexes : List ℕ) (width : ℕ) (keys : List Key) (key : Key) → All (IsKey heap indexes width) keys → key.use_index < length indexes
    → IsKeyAt heap width (slice_index indexes key.use_index) key → All (IsKey heap indexes width) (keys ++ key ∷ [])
key_added heap indexes width keys key all used at = All-push (IsKey heap indexes width) keys key all (record { used = used; at = at })

pub keys_sorted : (heap indexes : List ℕ) (width : ℕ) (keys sorted : List Key) → IsPermutation keys sorted → All (IsKey heap indexes width) keys
    → All (IsKey heap indexes width) sorted
keys_sorted heap indexes width keys sorted moved all = All-permutation (IsKey heap indexes width) keys sorted moved all
