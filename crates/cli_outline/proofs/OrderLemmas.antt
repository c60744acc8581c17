-- Rows in the order of their keys.
use Rattle.cli_outline.proofs.Prelude.{◌≡◌, ◌∙◌, ℕ, zero, suc, ◌+◌, ◌-◌, ◌<◌, ◌≤◌, List, [], ◌∷◌, ◌++◌, All, ap, arith, length, sym, slice_get, range_with_len, IsPermutation, All-permutation, TableId, Metadata, IsModel, Keyed, TableOrder, OutlineOptions, AreGrouped, IsRowIn, grouping_of, keyed_cmp, rows_of, map-id}
use Rattle.std.specs.Cmp.{IsTotalOrder}
use Rattle.std.proofs.lemmas.Cmp.{nat_cmp_total, nat_list_cmp_total, on_total, then_total}
use Rattle.std.proofs.lemmas.List.FromFn.{get_or-range_with_len, length-range_with_len, map-range_with_len_more}

pub keyed_cmp_total : IsTotalOrder keyed_cmp
keyed_cmp_total = then_total (on_total (λ (item : Keyed). item.key.items) nat_list_cmp_total) (on_total (λ (item : Keyed). item.row) nat_cmp_total)

-- one more number
pub range_more : (a n last : ℕ) → a + n ≡ last → range_with_len a (n + 1) ≡ range_with_len a n ++ last ∷ []
range_more a n last is =
    sym (map-id (range_with_len a (n + 1))) ∙ map-range_with_len_more (λ k. k) a n last is ∙ ap (λ xs. xs ++ last ∷ []) (map-id (range_with_len a n))

-- numbers in whatever order are those of a table
pub rows_within : (first past count : ℕ) (found : List ℕ) → IsPermutation (range_with_len first (past - first)) found → 1 ≤ first → past ≤ count + 1
    → All (λ row. (1 ≤ row) × (row ≤ count)) found
rows_within first past count found same from to = All-permutation (λ row. (1 ≤ row) × (row ≤ count)) _ _ same (λ k d lt.
    let long = length-range_with_len first (past - first) in
    let is = get_or-range_with_len first (past - first) k d (omega (arith, lt, long)) in
    (omega (arith, is, from), omega (arith, is, lt, long, to)))

-- each order at its index, after one more
pub pushed : (P : ℕ → List ℕ → Type 0) (orders : List TableOrder) (new : TableOrder) → ((k : ℕ) → k < length orders → P k (rows_of (slice_get orders k))) → P (length orders) new.rows.items
    → (k : ℕ) → k < length (orders ++ new ∷ []) → P k (rows_of (slice_get (orders ++ new ∷ []) k))
pushed P [] new all here zero lt = here
pushed P [] new all here (suc k) lt = absurd (omega (arith, lt))
pushed P (first ∷ later) new all here zero lt = all zero (omega arith)
pushed P (first ∷ later) new all here (suc k) lt = pushed (λ n. P (suc n)) later new (λ n is. all (suc n) (omega (arith, is))) here k (omega (arith, lt))

-- these are the rows of a table, in the order of their names
abbrev pub AreKnown : List ℕ → OutlineOptions → List ℕ → TableId → Type 0
AreKnown root options rows table =
    All (IsRowIn root table) rows × ((model : Metadata) → IsModel root model → AreGrouped options model table rows (grouping_of table))
