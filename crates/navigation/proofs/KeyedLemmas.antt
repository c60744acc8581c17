-- Rows in the order of their numbers.
use Rattle.navigation.proofs.Prelude.{◌≡◌, ◌∙◌, ℕ, zero, suc, ◌+◌, ◌<◌, ◌≤◌, ◌==◌, ◌&&◌, Bool, true, false, cond, List, [], ◌∷◌, ◌++◌, length, get_or, map, append-nil, refl, sym, ap, subst, arith, tests, All, filter, IsNonDecreasingBy, ties, eq-eqb, ne_eqb, get_or-map, length-map, All-cons, All-nil, All-weaker, filter-append, filter_agree, rows_that, KeyedRow, AreByKey, has_key, key_of, keyed_row, keyed_rows, row_of, not}
use Rattle.std.specs.Ordering.{is_lt, nat_cmp}

module _ {X : Type 0} (test : X → Bool) where
  filter_none : (xs : List X) → ((k : ℕ) (d : X) → k < length xs → test (get_or xs k d) ≡ false) → filter test xs ≡ []
  filter_none [] fails = refl
  filter_none (x ∷ xs) fails = ap (λ t. cond t (x ∷ filter test xs) (filter test xs)) (fails 0 x (omega arith)) ∙ filter_none xs (λ k d lt. fails (suc k) d (omega arith))

  filter_all : (xs : List X) → ((k : ℕ) (d : X) → k < length xs → test (get_or xs k d) ≡ true) → filter test xs ≡ xs
  filter_all [] passes = refl
  filter_all (x ∷ xs) passes =
      ap (λ t. cond t (x ∷ filter test xs) (filter test xs)) (passes 0 x (omega arith)) ∙ ap (λ ys. x ∷ ys) (filter_all xs (λ k d lt. passes (suc k) d (omega arith)))

-- rows with smaller numbers, those with the number, and those with greater ones
pub keyed_found : (rows prefix from found back : List KeyedRow) (key : ℕ) → rows ≡ prefix ++ from → from ≡ found ++ back
    → ((k : ℕ) (d : KeyedRow) → k < length prefix → key_of (get_or prefix k d) < key) → ((k : ℕ) (d : KeyedRow) → k < length found → key_of (get_or found k d) ≡ key)
    → ((k : ℕ) (d : KeyedRow) → k < length back → key < key_of (get_or back k d)) → found ≡ filter (has_key key) rows
keyed_found rows prefix from found back key whole parts less same more =
    let test = has_key key in
    let none_before = filter_none test prefix (λ k d lt. let small = less k d lt in ne_eqb (key_of (get_or prefix k d)) key (λ e. let equal : key_of (get_or prefix k d) ≡ key = e in absurd (omega (arith, small, equal)))) in
    let none_after = filter_none test back (λ k d lt. let large = more k d lt in ne_eqb (key_of (get_or back k d)) key (λ e. let equal : key_of (get_or back k d) ≡ key = e in absurd (omega (arith, large, equal)))) in
    let all_here = filter_all test found (λ k d lt. eq-eqb (key_of (get_or found k d)) key (same k d lt)) in
    sym (ap (filter test) (whole ∙ ap (λ xs. prefix ++ xs) parts)
    ∙ filter-append test prefix (found ++ back)
    ∙ ap (λ xs. xs ++ filter test (found ++ back)) none_before
    ∙ filter-append test found back
    ∙ ap (λ xs. filter test found ++ xs) none_after
    ∙ append-nil (filter test found)
    ∙ all_here)

-- numbers tie if they are equal
tie_is : (key other : ℕ) → (other == key) ≡ (not (is_lt (nat_cmp key other)) && not (is_lt (nat_cmp other key)))
tie_is key other = grind (arith, tests)

pub ties_are : (key : ℕ) (rows : List KeyedRow) → filter (has_key key) rows ≡ filter (ties (λ x y. is_lt (nat_cmp (key_of x) (key_of y))) (record { key = key; row = 0 })) rows
ties_are key rows = filter_agree (has_key key) _ (λ x. tie_is key (key_of x)) rows

-- the rows with a number, in ascending order
rows_keyed : (number : ℕ → ℕ) (first count key : ℕ) → map row_of (filter (has_key key) (keyed_rows number first count)) ≡ rows_that (λ row. number row == key) first count
rows_keyed number first zero key = refl
rows_keyed number first (suc count) key =
    let later = filter (has_key key) (keyed_rows number (first + 1) count) in
    let left = rows_that (λ row. number row == key) (first + 1) count in
    let tail = rows_keyed number (first + 1) count key in
    elim (number first == key) as (λ t. map row_of (cond t (keyed_row number first ∷ later) later) ≡ cond t (first ∷ left) left) [
      | true ↦ ap (λ rows. first ∷ rows) tail
      | false ↦ tail
    ]

pub by_key : (number : ℕ → ℕ) (first count : ℕ) (read sorted : List KeyedRow) → read ≡ keyed_rows number first count → IsNonDecreasingBy key_of sorted
    → ((key : ℕ) → filter (has_key key) sorted ≡ filter (has_key key) read) → AreByKey number first count sorted
by_key number first count read sorted is order stable = record {
  sorted = order;
  with_key = λ key. ap (map row_of) (stable key) ∙ ap (λ rows. map row_of (filter (has_key key) rows)) is ∙ rows_keyed number first count key;
}

-- they are among the rows
rows_are_among : (test : ℕ → Bool) (first count : ℕ) → All (λ row. (first ≤ row) × (row < first + count)) (rows_that test first count)
rows_are_among test first zero = All-nil _
rows_are_among test first (suc count) =
    let left = rows_that test (first + 1) count in
    let among : ℕ → Type 0 = λ row. (first ≤ row) × (row < first + suc count) in
    let tail : All among left = All-weaker (λ row. (first + 1 ≤ row) × (row < first + 1 + count)) among (λ row is. let low = is.0 in let high = is.1 in (omega arith, omega arith)) left (rows_are_among test (first + 1) count) in
    elim (test first) as (λ t. All among (cond t (first ∷ left) left)) [
      | true ↦ All-cons among first left (omega arith, omega arith) tail
      | false ↦ tail
    ]

pub keyed_among : (number : ℕ → ℕ) (first count key : ℕ) (rows : List KeyedRow) → AreByKey number first count rows
    → All (λ found. (first ≤ found.row) × (found.row < first + count)) (filter (has_key key) rows)
keyed_among number first count key rows are = λ k d lt.
    let found = filter (has_key key) rows in
    let among : ℕ → Type 0 = λ row. (first ≤ row) × (row < first + count) in
    let all = subst (λ (xs : List ℕ). All among xs) (sym (are.with_key key)) (rows_are_among (λ row. number row == key) first count) in
    let long = length-map found row_of in
    subst among (get_or-map row_of found k d (row_of d) lt) (all k (row_of d) (omega (arith, long, lt)))
