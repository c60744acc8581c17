-- Items one after another.
use Rattle.metadata.proofs.Prelude.{◌≡◌, ℕ, zero, suc, ◌+◌, ◌<◌, ◌≤◌, List, [], ◌∷◌, length, get_or, refl, sym, ap, subst, arith, inl, inr, AllByRecursion, cases_eq, AreFrom}

-- the number of items
pub items_length : {X : Type 0} (P : ℕ → X → Type 0) (i n : ℕ) (xs : List X) → AreFrom P i n xs → length xs ≡ n
items_length P i zero [] are = refl
items_length P i zero (x ∷ xs) are = absurd are
items_length P i (suc n) [] are = absurd are
items_length P i (suc n) (x ∷ xs) are = ap suc (items_length P (i + 1) n xs are.1)

-- the item at an index
pub item_at : {X : Type 0} (P : ℕ → X → Type 0) (i n : ℕ) (xs : List X) → AreFrom P i n xs → (k : ℕ) (d : X) → k < n → P (i + k) (get_or xs k d)
item_at P i zero xs are k d below = absurd (omega arith)
item_at P i (suc n) [] are k d below = absurd are
item_at P i (suc n) (x ∷ xs) are zero d below = let here : i ≡ i + 0 = omega arith in subst (λ (j : ℕ). P j x) here are.0
item_at P i (suc n) (x ∷ xs) are (suc k) d below =
    let there : i + 1 + k ≡ i + suc k = omega arith in
    subst (λ (j : ℕ). P j (get_or xs k d)) there (item_at P (i + 1) n xs are.1 k d (omega arith))

-- there is an item for each number
pub item_of : {X : Type 0} (P : ℕ → X → Type 0) (i n : ℕ) (xs : List X) → AreFrom P i n xs → (k : ℕ) → i ≤ k → k < i + n → (x : X) × P k x
item_of P i zero xs are k low high = absurd (omega arith)
item_of P i (suc n) [] are k low high = absurd are
item_of P i (suc n) (x ∷ xs) are k low high =
    elim (cases_eq k i) [
      | inl same ↦ rw same (x, are.0)
      | inr other ↦ item_of P (i + 1) n xs are.1 k (omega arith) (omega arith)
    ]

-- if there is an item for each number, there is a list of items
pub items_of : {X : Type 0} (P : ℕ → X → Type 0) (i n : ℕ) → ((k : ℕ) → i ≤ k → k < i + n → (x : X) × P k x) → (xs : List X) × AreFrom P i n xs
items_of P i zero each = ([], tt)
items_of P i (suc n) each =
    let here = each i (omega arith) (omega arith) in
    let tail = items_of P (i + 1) n (λ k low high. each k (omega arith) (omega arith)) in
    (here.0 ∷ tail.0, (here.1, tail.1))

-- if there is at most one item for each number, there is at most one list of items
pub items_one : {X : Type 0} (P : ℕ → X → Type 0) → ((k : ℕ) (x y : X) → P k x → P k y → x ≡ y) → (i n : ℕ) (xs ys : List X) → AreFrom P i n xs
    → AreFrom P i n ys → xs ≡ ys
items_one P each i zero [] [] are also = refl
items_one P each i zero [] (y ∷ ys) are also = absurd also
items_one P each i zero (x ∷ xs) ys are also = absurd are
items_one P each i (suc n) [] ys are also = absurd are
items_one P each i (suc n) (x ∷ xs) [] are also = absurd also
items_one P each i (suc n) (x ∷ xs) (y ∷ ys) are also =
    let head = each i x y are.0 also.0 in
    let tail = items_one P each (i + 1) n xs ys are.1 also.1 in
    cc

-- the item at an index, by its number
pub from_at : {X : Type 0} (P : ℕ → X → Type 0) (i n : ℕ) (xs : List X) (k j : ℕ) (d : X) → AreFrom P i n xs → k < n → j ≡ i + k → P j (get_or xs k d)
from_at P i n xs k j d are below e = subst (λ m. P m (get_or xs k d)) (sym e) (item_at P i n xs are k d below)

pub all_weaker : {X : Type 0} (P Q : X → Type 0) → ((x : X) → P x → Q x) → (xs : List X) → AllByRecursion P xs → AllByRecursion Q xs
all_weaker P Q each [] all = tt
all_weaker P Q each (x ∷ xs) all = (each x all.0, all_weaker P Q each xs all.1)
