-- What is known of the cells of a table that were compared (ECMA-335 II.24.2.6).
use Rattle.std.specs.Prelude.{◌≡◌, ◌+◌, ◌<◌, ◌≤◌, ◌++◌, ℕ, Bool, List, Option, Some}
use Rattle.std.specs.Ordering.{nat_cmp, ordering_then}
use Rattle.std.specs.declared.cmp.Ordering.{Ordering}
use Rattle.std.specs.BTreeMap.{get}
use Rattle.table_schema.specs.declared.table.TableId.{TableId}
use Rattle.table_schema.specs.declared.column.ColumnKind.{ColumnKind}
use Rattle.table_schema.specs.declared.column.ColumnKind.TheVariants as kind
use Rattle.table_schema.specs.CellColumns.{column_of}
use Rattle.metadata.specs.Metadata.{Metadata, cell_in}
use Rattle.metadata.specs.Model.{IsModel}
use Rattle.metadata.specs.Source.{number_of}
use Rattle.metadata.specs.SourceAt.{source_of}
use Rattle.opening.specs.Views.{row_count}
use Rattle.comparison.specs.BlobNames.{AreBlobNames}
use Rattle.comparison.specs.declared.compared_cells.ComparedCells.{ComparedCells}
use Rattle.comparison.specs.declared.compared_cells.Outcome.{Outcome}
use Rattle.comparison.specs.declared.same_in_row.ViewCells.{ViewCells}
use Rattle.comparison.specs.SameCells.{is_same_cell}

-- the number of a column is the index of its value in a heap, of a text or a blob
abbrev pub IsInHeap : ColumnKind → Type 0
IsInHeap kind.Text = Unit {0}
IsInHeap kind.Blob = Unit {0}
IsInHeap (kind.Signature encoded) = Unit {0}
IsInHeap _ = ⊥

-- the order of three numbers, by the first one that differs
abbrev pub key_cmp : ℕ × ℕ × ℕ → ℕ × ℕ × ℕ → Ordering
key_cmp a b = ordering_then (ordering_then (nat_cmp a.0 b.0) (nat_cmp a.1 b.1)) (nat_cmp a.2 b.2)

-- what was noted with a key
abbrev pub outcome_at : ComparedCells → ℕ × ℕ × ℕ → Option Outcome
outcome_at compared key = get key_cmp compared.outcomes key

-- the names are those of the windows of two roots, whose blob heaps are joined
abbrev pub HasBlobNames : List ℕ → List ℕ → ComparedCells → Type 0
HasBlobNames left right compared = AreBlobNames ((source_of left).blobs ++ (source_of right).blobs) compared.blobs

-- the cells are those of two roots
pub record AreCells (left right : List ℕ) (cells : ViewCells) : Type 0 where
  pub left_root : cells.left ≡ left
  pub right_root : cells.right ≡ right

-- a row that two roots have
pub record IsInBoth (left right : List ℕ) (table : TableId) (row : ℕ) : Type 0 where
  pub first : 1 ≤ row
  pub left_last : row ≤ row_count left table
  pub right_last : row ≤ row_count right table

module _ (left right : List ℕ) (table : TableId) where
  -- whether a cell is equal in each row of two roots that has these numbers in the column of the cell
  abbrev pub IsOutcome : ℕ → ℕ → ℕ → Bool → Type 0
  IsOutcome cell_index m n same = (first second : Metadata) → IsModel left first → IsModel right second
      → (row : ℕ) → 1 ≤ row → row ≤ row_count left table → row ≤ row_count right table
      → number_of (source_of left) table row (column_of table cell_index) ≡ m → number_of (source_of right) table row (column_of table cell_index) ≡ n
      → same ≡ is_same_cell (cell_in first table row cell_index) (cell_in second table row cell_index)

  -- it is so of two numbers, and of the next ones in both roots
  abbrev pub IsNoted : Outcome → Type 0
  IsNoted noted = (k : ℕ) → k < noted.count → IsOutcome noted.cell_index (noted.left + k) (noted.right + k) noted.same

  -- what was noted is so, and the names are those of the windows
  abbrev pub AreOutcomes : ComparedCells → Type 0
  AreOutcomes compared = ((key : ℕ × ℕ × ℕ) (noted : Outcome) → outcome_at compared key ≡ Some noted → IsNoted noted) × HasBlobNames left right compared
