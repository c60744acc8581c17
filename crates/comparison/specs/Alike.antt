-- Two roots whose cells are read alike: equal numbers stand for equal cells (ECMA-335 II.24.2.3 to II.24.2.6).
use Rattle.std.specs.Prelude.{◌≡◌, ◌↔◌, ◌<◌, ◌≤◌, ℕ, Bool, true, IsTrue, length}
use Rattle.table_schema.specs.declared.table.TableId.{TableId}
use Rattle.table_schema.specs.declared.column.ColumnKind.{ColumnKind}
use Rattle.table_schema.specs.declared.column.ColumnKind.TheVariants as kind
use Rattle.table_schema.specs.Columns.{column_at, columns_of}
use Rattle.schema.specs.Sizes.{SameCounts}
use Rattle.metadata.specs.Source.{Source, number_of}
use Rattle.comparison.specs.declared.same_bytes.SameParts.{SameParts}

-- whether the heap that the numbers of a column index, if they index one, is marked as the same
abbrev pub has_same_heap : SameParts → ColumnKind → Bool
has_same_heap same kind.Text = same.texts
has_same_heap same kind.Guid = same.guids
has_same_heap same kind.Blob = same.blobs
has_same_heap same (kind.Signature encoded) = same.blobs
has_same_heap same _ = true

module _ (left right : Source) where
  -- the heap that the numbers of a column index, if they index one, has the same bytes
  abbrev pub HaveSameHeap : ColumnKind → Type 0
  HaveSameHeap kind.Text = left.texts ≡ right.texts
  HaveSameHeap kind.Guid = left.guids ≡ right.guids
  HaveSameHeap kind.Blob = left.blobs ≡ right.blobs
  HaveSameHeap (kind.Signature encoded) = left.blobs ≡ right.blobs
  HaveSameHeap _ = Unit {0}

  -- the tables have the same numbers of rows, the columns have the same widths, and the columns of a table index the same
  -- heaps
  pub record AreAlike (table : TableId) : Type 0 where
    pub layout : SameCounts left.sizes right.sizes
    pub heaps : (column : ℕ) → column < length (columns_of table) → HaveSameHeap (column_at table column).kind

  -- the rows of a table from a first up to but not including another have the same numbers
  abbrev pub HaveSameNumbers : TableId → ℕ → ℕ → Type 0
  HaveSameNumbers table first past = (row column : ℕ) → first ≤ row → row < past → column < length (columns_of table)
      → number_of left table row column ≡ number_of right table row column

  -- each part is marked as the same if and only if it is
  pub record AreSameParts (same : SameParts) : Type 0 where
    pub layout : IsTrue same.layout ↔ SameCounts left.sizes right.sizes
    pub texts : IsTrue same.texts ↔ (left.texts ≡ right.texts)
    pub blobs : IsTrue same.blobs ↔ (left.blobs ≡ right.blobs)
    pub guids : IsTrue same.guids ↔ (left.guids ≡ right.guids)
