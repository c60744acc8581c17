-- One value more.
use Rattle.navigation.proofs.Prelude.{◌≡◌, ◌∙◌, ℕ, ◌<◌, ◌≤◌, List, [], ◌∷◌, ◌++◌, length, slice_index, sym, ap, arith, ⊎_elim, cases_lt, get_or_append_left, get_or_push, length_push}

pub one_more : (value : ℕ → ℕ) (xs : List ℕ) (x n : ℕ) → length xs ≡ n → ((k : ℕ) → k < length xs → value k ≡ slice_index xs k) → value n ≡ x
    → (k : ℕ) → k < length (xs ++ x ∷ []) → value k ≡ slice_index (xs ++ x ∷ []) k
one_more value xs x n long are next k within =
    ⊎_elim
    (λ (l : k < length xs). are k l ∙ sym (get_or_append_left xs (x ∷ []) 0 k l))
    (λ (l : length xs ≤ k).
    let last : n ≡ k = omega (arith, long, l, within, length_push xs x) in
    sym (ap value last) ∙ next ∙ sym (get_or_push xs x 0 k (long ∙ last)))
    (cases_lt k (length xs))
