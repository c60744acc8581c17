-- What a walk over the numbers of a column walks, number by number.
use Rattle.std.proofs.Common.{◌≡◌, ℕ, zero, suc, ◌+◌, ◌-◌, ◌≤◌, ◌<◌, Bool, true, false, cond, length, Option, Some, None, IfSome, IfNone, OnSome, add-one, refl, sym, ap, subst, ◌∙◌, inl, inr, arith}
use Rattle.checks.proofs.Prelude.{cases_eq, TableId, SigKind, Column, ColumnKind, columns_of, column_at, Source, rows_in, table_at, Budget, IsBelow, Takes, Spends, Slots, no_slots, is_kept, keep, Walk, walk_one, walk_over, number_after, walked_bytes, walked_in, column_walked, table_walked, table_walked_at, walked_signature_bytes, StopsAt, sum_below, blob_length, cell_bytes, column_bytes, table_bytes, table_bytes_at, signature_bytes}
use Rattle.table_schema.specs.declared.column.ColumnKind.TheVariants as kind
use Rattle.checks.proofs.Spending.{takes_none, takes_more, below_taken, below_within, taken_within}
use Rattle.checks.proofs.Sums.{sum_each}

module _ (long : ℕ → ℕ) (walk : Walk) (n : ℕ) where
  pub one_spared : is_kept walk.slots n ≡ true → walk_one long walk n ≡ walk
  one_spared kept = ap (λ b. cond b walk (record { slots = keep walk.slots n (long n); bytes = walk.bytes + long n })) kept

  pub one_walked : is_kept walk.slots n ≡ false → walk_one long walk n ≡ record { slots = keep walk.slots n (long n); bytes = walk.bytes + long n }
  one_walked new = ap (λ b. cond b walk (record { slots = keep walk.slots n (long n); bytes = walk.bytes + long n })) new

between : (b : Bool) (walk other : Walk) (m n : ℕ) → walk.bytes ≡ m → other.bytes ≡ m + n → (m ≤ (cond b walk other).bytes) × ((cond b walk other).bytes ≤ m + n)
between true walk other m n is same = (omega arith, omega arith)
between false walk other m n is same = (omega arith, omega arith)

one_bytes : (long : ℕ → ℕ) (walk : Walk) (n : ℕ) → (walk.bytes ≤ (walk_one long walk n).bytes) × ((walk_one long walk n).bytes ≤ walk.bytes + long n)
one_bytes long walk n =
    between (is_kept walk.slots n) walk (record { slots = keep walk.slots n (long n); bytes = walk.bytes + long n }) walk.bytes (long n) refl refl

module _ (heap : ℕ) (long number : ℕ → ℕ) where
  pub walk_none : walk_over heap long number 0 ≡ record { slots = no_slots heap; bytes = 0 }
  unfolding walk_over
  walk_none = refl

  pub walk_more : (before : ℕ) → walk_over heap long number (before + 1) ≡ walk_one long (walk_over heap long number before) (number before)
  unfolding walk_over
  walk_more before = rw add-one refl

  -- no more is walked than the blobs have that are named
  pub walk_bytes : (f : ℕ → ℕ) → ((before : ℕ) → long (number before) ≤ f before) → (rows : ℕ) → (walk_over heap long number rows).bytes ≤ sum_below f rows
  unfolding walk_over sum_below
  walk_bytes f each zero = omega arith
  walk_bytes f each (suc before) = omega (arith, walk_bytes f each before, (one_bytes long (walk_over heap long number before) (number before)).1, each before)

  -- fewer numbers are walked in no more bytes
  walk_fewer : (few rows : ℕ) → few ≤ rows → (walk_over heap long number few).bytes ≤ (walk_over heap long number rows).bytes
  unfolding walk_over
  walk_fewer zero zero le = omega arith
  walk_fewer (suc few) zero le = absurd (omega arith)
  walk_fewer few (suc rows) le = elim (cases_eq few (suc rows)) [
    | inl same ↦ (let P : ℕ → Type 0 = λ k. (walk_over heap long number k).bytes ≤ (walk_over heap long number (suc rows)).bytes in subst P (sym same) (omega arith))
    | inr other ↦ omega (arith, walk_fewer few rows (omega arith), (one_bytes long (walk_over heap long number rows) (number rows)).0)
  ]

  -- one row more, by what is kept and what is left of a budget
  module _ (row : ℕ) (first : 1 ≤ row) (a b : Budget) (slots : Slots) (n : ℕ) (are : slots ≡ (walk_over heap long number (row - 1)).slots)
      (taken : Takes a b (walk_over heap long number (row - 1)).bytes) (is : n ≡ number (row - 1)) where
    next : walk_over heap long number (row + 1 - 1) ≡ walk_one long (walk_over heap long number (row - 1)) n
    next = ap (walk_over heap long number) (omega arith) ∙ walk_more (row - 1) ∙ ap (walk_one long (walk_over heap long number (row - 1))) (sym is)

    pub row_spared : is_kept slots n ≡ true → (slots ≡ (walk_over heap long number (row + 1 - 1)).slots) × Takes a b (walk_over heap long number (row + 1 - 1)).bytes
    row_spared kept =
        let same = next ∙ one_spared long (walk_over heap long number (row - 1)) n (ap (λ s. is_kept s n) (sym are) ∙ kept) in
        (rw same are, rw same taken)

    pub row_walked : (c : Budget) (bytes : ℕ) → is_kept slots n ≡ false → bytes ≡ long n → Takes b c bytes
        → (keep slots n bytes ≡ (walk_over heap long number (row + 1 - 1)).slots) × Takes a c (walk_over heap long number (row + 1 - 1)).bytes
    row_walked c bytes new has here =
        let same = next ∙ one_walked long (walk_over heap long number (row - 1)) n (ap (λ s. is_kept s n) (sym are) ∙ new) in
        (rw (same, are, has) refl, rw (same, ← has) (takes_more a b c (walk_over heap long number (row - 1)).bytes bytes taken here))

    pub row_refused : (bytes rows : ℕ) → is_kept slots n ≡ false → bytes ≡ long n → row ≤ rows → IsBelow b bytes → IsBelow a (walk_over heap long number rows).bytes
    row_refused bytes rows new has last below =
        let same = next ∙ one_walked long (walk_over heap long number (row - 1)) n (ap (λ s. is_kept s n) (sym are) ∙ new) in
        let more : (walk_over heap long number (row - 1)).bytes + bytes ≡ (walk_over heap long number (row + 1 - 1)).bytes = rw (same, has) refl in
        below_within a ((walk_over heap long number (row - 1)).bytes + bytes) (walk_over heap long number rows).bytes
        (omega (arith, more, walk_fewer (row + 1 - 1) rows (omega arith)))
        (below_taken a b (walk_over heap long number (row - 1)).bytes bytes taken below)

-- a column's walk over all of its rows
module _ (source : Source) (table : TableId) (column limit : ℕ) (encoded : SigKind) (of_kind : (column_at table column).kind ≡ kind.Signature encoded)
    (last : limit ≤ rows_in source table + 1) where
  walked_all : column_walked source table column ≡ walked_bytes source table column (rows_in source table)
  unfolding column_walked
  walked_all = ap (λ (k : ColumnKind). walked_in source table column k (rows_in source table)) of_kind

  column_long : (rows : ℕ) → rows < limit → walked_bytes source table column rows ≤ column_walked source table column
  column_long rows within = omega (
    arith,
    walked_all,
    walk_fewer (length source.blobs) (blob_length source.blobs) (number_after source table column) rows (rows_in source table) (omega arith),
  )

  pub walk_spends : (a b : Budget) (found : Option ℕ) → IfSome found (StopsAt source table column limit a b) → OnSome found (Spends a b (column_walked source table column))
  walk_spends a b None stops = tt
  walk_spends a b (Some row) stops = taken_within a b (walked_bytes source table column stops.0) (column_walked source table column) (column_long stops.0 stops.3) stops.4

  pub walk_takes : (a b : Budget) (found : Option ℕ) → IfSome found (StopsAt source table column limit a b)
      → IfSome found (λ row. rows_in source table < row → Takes a b (column_walked source table column))
  walk_takes a b None stops = tt
  walk_takes a b (Some row) stops = λ past.
      let all : stops.0 ≡ rows_in source table = omega (arith, stops.2, stops.3, past, last) in
      rw (walked_all, ← all) stops.4

  pub walk_below : 1 ≤ limit → (a : Budget) (found : Option ℕ) → IfNone found (IsBelow a (walked_bytes source table column (limit - 1))) → IfNone found (IsBelow a (column_walked source table column))
  walk_below first a None below = below_within a (walked_bytes source table column (limit - 1)) (column_walked source table column) (column_long (limit - 1) (omega arith)) below
  walk_below first a (Some row) below = tt

-- nothing is taken for a column of another kind
pub unwalked_takes : (source : Source) (table : TableId) (column : ℕ) (held : Column) → held ≡ column_at table column
    → walked_in source table column held.kind (rows_in source table) ≡ 0 → (budget : Budget) → Takes budget budget (column_walked source table column)
unfolding column_walked
unwalked_takes source table column held is none budget =
    subst (Takes budget budget) (sym none ∙ ap (λ (h : Column). walked_in source table column h.kind (rows_in source table)) is) (takes_none budget)

-- no more is walked than all blobs have
module _ (source : Source) (table : TableId) where
  kind_long : (column : ℕ) (held : ColumnKind) → (column_at table column).kind ≡ held → walked_in source table column held (rows_in source table) ≤ column_bytes source table column
  unfolding column_bytes cell_bytes
  kind_long column (kind.Signature encoded) is =
      walk_bytes (length source.blobs) (blob_length source.blobs) (number_after source table column) (cell_bytes source table column)
      (λ before. rw is (omega arith)) (rows_in source table)
  kind_long column _ is = omega arith

  table_long : table_walked source table ≤ table_bytes source table
  unfolding table_walked table_bytes column_walked
  table_long =
      sum_each (column_walked source table) (column_bytes source table) (λ column. kind_long column (column_at table column).kind refl) (length (columns_of table))

pub walked_no_more : (source : Source) → walked_signature_bytes source ≤ signature_bytes source
unfolding walked_signature_bytes signature_bytes table_walked_at table_bytes_at
walked_no_more source = sum_each (table_walked_at source) (table_bytes_at source) (λ table_index. table_long source (table_at table_index)) 38
