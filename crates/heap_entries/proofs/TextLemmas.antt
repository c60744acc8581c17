-- The offset of a text in the strings heap.
use Rattle.heap_entries.proofs.Prelude.{◌≡◌, ◌≢◌, ℕ, ◌+◌, ◌<◌, ◌≤◌, List, ◌∷◌, ◌++◌, length, take, drop, slice_index, IsUtf8, inl, inr, refl, sym, ap, subst, ◌∙◌, ⊎_elim, arith, length-append, cases_lt, take-append-drop, get_or-take, drop_more, drop_at, take_at, get_or_append_left, get_or_at, length-take-le, All-from_get_or, IsEnded, IsText}

-- the bytes from the index up to the first NUL satisfy `IsEnded`
pub ended_from : (heap : List ℕ) (index n : ℕ) → index ≤ length heap → n < length (drop index heap) → ((k : ℕ) → k < n → slice_index (drop index heap) k ≢ 0) → slice_index (drop index heap) n ≡ 0 → IsEnded heap index (take n (drop index heap))
ended_from heap index n h in_tail none nul =
    let tail = drop index heap in
    record {
      before = take index heap;
      after = drop (n + 1) tail;
      whole = sym (take-append-drop index heap) ∙ ap (λ l. take index heap ++ l) (sym (take-append-drop n tail) ∙ ap (λ l. take n tail ++ l) (drop_more tail n 0 in_tail ∙ ap (λ b. b ∷ drop (n + 1) tail) nul));
      at = length-take-le index heap (omega arith);
      no_nul = All-from_get_or (λ byte. byte ≢ 0) (take n tail) 0 (λ k lt. let few : k < n = omega (arith, lt, length-take-le n tail (omega arith)) in λ e. none k few (sym (get_or-take n tail k 0 few) ∙ e));
    }

module _ (heap : List ℕ) (index : ℕ) (bytes : List ℕ) (e : IsEnded heap index bytes) where
  pub tail_is : drop index heap ≡ bytes ++ 0 ∷ e.after
  tail_is = ap (drop index) e.whole ∙ drop_at e.before (bytes ++ 0 ∷ e.after) index e.at

  pub ended_length : index + length bytes < length heap
  ended_length = omega (arith, ap length e.whole, length-append e.before (bytes ++ 0 ∷ e.after), length-append bytes (0 ∷ e.after), e.at)

  pub nul_behind : slice_index (drop index heap) (length bytes) ≡ 0
  nul_behind = ap (λ l. slice_index l (length bytes)) tail_is ∙ get_or_at bytes 0 e.after 0 (length bytes) refl

  pub none_in : (k : ℕ) → k < length bytes → slice_index (drop index heap) k ≢ 0
  none_in k h z = e.no_nul k 0 h (sym (get_or_append_left bytes (0 ∷ e.after) 0 k h) ∙ ap (λ l. slice_index l k) (sym tail_is) ∙ z)

  pub bytes_are : (n : ℕ) → n ≡ length bytes → take n (drop index heap) ≡ bytes
  bytes_are n h = ap (take n) tail_is ∙ take_at bytes (0 ∷ e.after) n (sym h)

-- an index has at most one sequence of bytes before its NUL
pub ended_same : (heap : List ℕ) (index : ℕ) (a b : List ℕ) → IsEnded heap index a → IsEnded heap index b → a ≡ b
ended_same heap index a b x y =
    let same : length a ≡ length b = ⊎_elim
    (λ (lt : length a < length b). absurd (none_in heap index b y (length a) lt (nul_behind heap index a x)))
    (λ (ge : length b ≤ length a). ⊎_elim
    (λ (lt : length b < length a). absurd (none_in heap index a x (length b) lt (nul_behind heap index b y)))
    (λ (le : length a ≤ length b). let e : length a ≡ length b = omega arith in e)
    (cases_lt (length b) (length a)))
    (cases_lt (length a) (length b)) in
    sym (bytes_are heap index a x (length a) refl) ∙ bytes_are heap index b y (length a) same

-- the text at an index above 0 is the bytes before its NUL, if they are UTF-8
pub text_same : (heap : List ℕ) (index : ℕ) (bytes text : List ℕ) → 0 < index → IsEnded heap index bytes → IsText heap index text → (bytes ≡ text) × IsUtf8 bytes
text_same heap index bytes text some stands (inl none) = absurd (omega (arith, none.0))
text_same heap index bytes text some stands (inr is) =
    let same = ended_same heap index bytes text stands is.1 in
    (same, subst IsUtf8 (sym same) is.2)

pub text_ended : (heap : List ℕ) (index : ℕ) (text : List ℕ) → 0 < index → IsText heap index text → IsEnded heap index text
text_ended heap index text some (inl none) = absurd (omega (arith, none.0))
text_ended heap index text some (inr is) = is.1
