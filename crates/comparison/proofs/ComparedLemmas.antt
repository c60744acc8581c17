-- What is noted of two cells is so in each row with the same numbers.
use Rattle.comparison.proofs.Prelude.{◌≡◌, ◌∙◌, ◌≤◌, ◌<◌, ℕ, Bool, true, false, List, Some, ap₂, sym, subst, cond, Cell, TableId, ColumnKind, column_at, cell_count, column_of, Metadata, cell_in, IsModel, IsCell, Source, number_of, rows_in, source_of, StandsFor, start_of, kind_at, row_count, Outcome, AreOutcomes, IsInBoth, IsInHeap, IsNoted, IsOutcome, key_cmp, outcome_at, is_same_cell}
use Rattle.std.specs.Ordering.{is_eq}
use Rattle.table_schema.specs.declared.column.ColumnKind.TheVariants as kind
use Rattle.comparison.specs.declared.compared_cells.ComparedCells.{ComparedCells}

-- what was noted before and what is noted now
pub outcomes_after : (left right : List ℕ) (table : TableId) (before after : ComparedCells) (key : ℕ × ℕ × ℕ) (noted : Outcome)
    → ((other : ℕ × ℕ × ℕ) → outcome_at after other ≡ cond (is_eq (key_cmp key other)) (Some noted) (outcome_at before other))
    → after.blobs ≡ before.blobs → AreOutcomes left right table before → IsNoted left right table noted → AreOutcomes left right table after
outcomes_after left right table before after key noted updated blobs was is = (
  λ other more found. go other more (is_eq (key_cmp key other)) (sym (updated other) ∙ found),
  rw blobs was.1,
)
  where
    go : (other : ℕ × ℕ × ℕ) (more : Outcome) (same : Bool) → cond same (Some noted) (outcome_at before other) ≡ Some more → IsNoted left right table more
    go other more true found = let one : noted ≡ more = cc found in subst (IsNoted left right table) one is
    go other more false found = was.0 other more found

-- ---- cells

-- the cell of an index of a heap does not depend on the row
of_any_row : (source : Source) (column : ColumnKind) (nullable : Bool) (start other : TableId → ℕ) (number : ℕ) (cell : Cell) → IsInHeap column
    → StandsFor source column nullable start number cell → StandsFor source column nullable other number cell
of_any_row source kind.Text nullable start other number cell in_heap stands = stands
of_any_row source kind.Blob nullable start other number cell in_heap stands = stands
of_any_row source (kind.Signature encoded) nullable start other number cell in_heap stands = stands
of_any_row source _ nullable start other number cell in_heap stands = absurd in_heap

module _ (one : (source : Source) (table : TableId) (row cell_index : ℕ) (cell other : Cell) → IsCell source table row cell_index cell → IsCell source table row cell_index other → cell ≡ other)
    (table : TableId) (cell_index : ℕ) (in_heap : IsInHeap (kind_at table cell_index)) where
  cells_same : (source : Source) (row other : ℕ) (cell more : Cell) → number_of source table other (column_of table cell_index) ≡ number_of source table row (column_of table cell_index)
      → IsCell source table row cell_index cell → IsCell source table other cell_index more → cell ≡ more
  cells_same source row other cell more same is also =
      let column = column_at table (column_of table cell_index) in
      one source table row cell_index cell more is
      (of_any_row source column.kind column.nullable (start_of source table other (column_of table cell_index)) (start_of source table row (column_of table cell_index))
      (number_of source table row (column_of table cell_index)) more in_heap
      (subst (λ (n : ℕ). StandsFor source column.kind column.nullable (start_of source table other (column_of table cell_index)) n more) same also))

  -- what is so in one row is so in each with its numbers
  pub outcome_is : ((root : List ℕ) (model : Metadata) → IsModel root model → (of : TableId) (row index : ℕ) → 1 ≤ row → row ≤ rows_in (source_of root) of → index < cell_count of
      → IsCell (source_of root) of row index (cell_in model of row index))
      → (left right : List ℕ) (row m n : ℕ) (same : Bool) → cell_index < cell_count table → IsInBoth left right table row
      → m ≡ number_of (source_of left) table row (column_of table cell_index) → n ≡ number_of (source_of right) table row (column_of table cell_index)
      → ((first second : Metadata) → IsModel left first → IsModel right second → same ≡ is_same_cell (cell_in first table row cell_index) (cell_in second table row cell_index))
      → IsOutcome left right table cell_index m n same
  unfolding row_count
  outcome_is read left right row m n same lt row_in m_is n_is tested = λ first second is also other from before right_before left_same right_same.
      tested first second is also ∙
      ap₂ is_same_cell
      (cells_same (source_of left) row other (cell_in first table row cell_index) (cell_in first table other cell_index) (left_same ∙ m_is)
      (read left first is table row cell_index row_in.first row_in.left_last lt) (read left first is table other cell_index from before lt))
      (cells_same (source_of right) row other (cell_in second table row cell_index) (cell_in second table other cell_index) (right_same ∙ n_is)
      (read right second also table row cell_index row_in.first row_in.right_last lt) (read right second also table other cell_index from right_before lt))
