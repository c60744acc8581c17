-- Short blobs end within the heap.
use Rattle.checks.proofs.Prelude.{◌≡◌, ℕ, ◌+◌, ◌-◌, ◌<◌, ◌≤◌, List, [], ◌∷◌, ◌++◌, length, take, drop, get_or, refl, sym, subst, ◌∙◌, ap, inl, inr, arith, length-drop, cases_eq, length-take-le, drop_more, take-append-drop, get_or-take, IsPacked, IsCounted, IsBlob}

-- a byte below 128 is the length of a blob, if that number of bytes follows
counted : (heap : List ℕ) (index len : ℕ) → index + 1 + len ≤ length heap → get_or heap index 0 ≡ len → len < 128 → IsCounted heap index (take len (drop (index + 1) heap))
counted heap index len within is short =
    let tail = drop (index + 1) heap in
    let long : length (take len tail) ≡ len = length-take-le len tail (omega (arith, length-drop (index + 1) heap)) in
    record {
      before = take index heap;
      count = len ∷ [];
      after = drop len tail;
      whole = sym (take-append-drop index heap)
          ∙ ap (λ l. take index heap ++ l) (drop_more heap index 0 (omega arith) ∙ ap (λ b. b ∷ tail) is ∙ ap (λ l. len ∷ l) (sym (take-append-drop len tail)));
      at = length-take-le index heap (omega arith);
      counts = let P : ℕ → Type 0 = λ n. IsPacked n (len ∷ []) in subst P (sym long) (inl (short, refl));
    }

-- the same of a byte that 127 others follow
pub near_blob : (heap near : List ℕ) (index len : ℕ) → near ≡ take (length heap - 127) heap → index < length near → get_or near index 0 ≡ len → len < 128
    → (blob : List ℕ) × IsBlob heap index blob
near_blob heap near index len is_near within is short =
    let long : length near ≡ length heap - 127 = ap length is_near ∙ length-take-le (length heap - 127) heap (omega arith) in
    let here : get_or heap index 0 ≡ len = sym (ap (λ l. get_or l index 0) is_near ∙ get_or-take (length heap - 127) heap index 0 (omega arith)) ∙ is in
    elim (cases_eq index 0) [
      | inl none ↦ ([], inl (none, refl))
      | inr some ↦ (take len (drop (index + 1) heap), inr (omega (arith, some), counted heap index len (omega arith) here short))
    ]
