use Rattle.tables.proofs.Prelude.{◌≡◌, ℕ, ◌+◌, ◌-◌, ◌<◌, ◌≤◌, List, [], length, slice_index_or, refl, sym, ◌∙◌, inl, inr, arith, cases_eq, get_or_read, TableId, ColumnKind, Metadata, rows_of, key_number, key_in, kind_at, count_in}
use Rattle.metadata.specs.Cell.{Cell, Number}
use Rattle.tables.proofs.order.never_falls.Goals as goal

-- the key number of the current row
key_here : (model : Metadata) (table : TableId) (cell_index i : ℕ) (rows : List (List Cell)) (row : List Cell) (kind : ColumnKind) (number : ℕ)
    → rows ≡ rows_of model table → i < length rows → row ≡ slice_index_or rows i row → kind ≡ kind_at table cell_index
    → number ≡ key_number kind (slice_index_or row cell_index (Number 0)) → number ≡ key_in model table cell_index (i + 1)
key_here model table cell_index i rows row kind number are within is is_kind is_number =
    let back : (i + 1) - 1 ≡ i = omega arith in
    let same : slice_index_or rows i [] ≡ row = sym (get_or_read rows i row within is []) in
    is_number ∙ rw (back, ← are, same, is_kind) refl

module _ (f : ℕ → ℕ) (i before number : ℕ) (here : number ≡ f (i + 1)) (last : 1 ≤ i → before ≡ f i) where
  back : (i + 1) - 1 ≡ i
  back = omega arith

  rising_more : before ≤ number → ((row : ℕ) → 2 ≤ row → row ≤ i → f (row - 1) ≤ f row) → (row : ℕ) → 2 ≤ row → row ≤ i + 1 → f (row - 1) ≤ f row
  rising_more rises rising row second within =
      elim (cases_eq row (i + 1)) [
        | inl same ↦ let e = last (omega arith) in rw (same, back, ← e, ← here) rises
        | inr other ↦ rising row second (omega arith)
      ]

  falls_there : (n : ℕ) → (i ≡ 0 → before ≡ 0) → number < before → i < n → ((row : ℕ) → 2 ≤ row → row ≤ n → f (row - 1) ≤ f row) → ⊥
  falls_there n none falls within rising =
      elim (cases_eq i 0) [
        | inl first ↦ let e = none first in omega arith
        | inr other ↦
            let e = last (omega arith) in
            let h = rw back at (rising (i + 1) (omega arith) (omega arith)) in
            omega arith
      ]

pub returns-then-number-before : goal.returns-then-number-before
returns-then-number-before c =
    let model = c.args.tables.now in
    let here = key_here model c.args.table c.args.cell_index c.loop-row.row-index c.rows-row-items.result.now c.row-item.result c.column_at-kind.result.kind c.key_at-number.result
    c.rows-row-items.ensures.rows c.loop-row-test.true c.row-item.is c.column_at-kind.ensures.kind c.key_at-number.ensures in (
      λ yes. absurd cc,
      λ rising. absurd (falls_there (key_in model c.args.table c.args.cell_index) c.loop-row.row-index c.loop-row.before c.key_at-number.result here
          c.loop-row.invariant.before (count_in model c.args.table) c.loop-row.invariant.none c.if-number-before.true (rw (← c.rows-row-items.ensures.rows) c.loop-row-test.true) rising),
    )

pub loop-row-preserved : goal.loop-row-preserved
loop-row-preserved c =
    let model = c.args.tables.now in
    let here = key_here model c.args.table c.args.cell_index c.loop-row.row-index c.rows-row-items.result.now c.row-item.result c.column_at-kind.result.kind c.key_at-number.result
    c.rows-row-items.ensures.rows c.loop-row-test.true c.row-item.is c.column_at-kind.ensures.kind c.key_at-number.ensures in
    record {
      rising = rising_more (key_in model c.args.table c.args.cell_index) c.loop-row.row-index c.loop-row.before c.key_at-number.result here c.loop-row.invariant.before c.if-number-before.false
          c.loop-row.invariant.rising;
      none = λ e. absurd (omega arith);
      before = λ _. here;
    }
