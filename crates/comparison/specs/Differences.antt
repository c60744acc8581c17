-- What differs between two models (ECMA-335 II.22 and II.24.2), in order.
use Rattle.std.specs.Prelude.{◌≡◌, ◌<◌, ◌≤◌, ◌==◌, ◌||◌, ℕ, if◌then◌else◌, min, List, [], ◌∷◌, ◌++◌, take}
use Rattle.std.specs.List.{flat_map, range_with_len}
use Rattle.std.specs.Str.{bytes_eq}
use Rattle.table_schema.specs.declared.table.TableId.{TableId}
use Rattle.table_schema.specs.Tables.{tables}
use Rattle.table_schema.specs.CellColumns.{cell_count}
use Rattle.metadata.specs.Metadata.{Metadata, cell_in, count_in}
use Rattle.opening.specs.Views.{row_count}
use Rattle.comparison.specs.declared.difference.Difference.{Difference}
use Rattle.comparison.specs.declared.difference.Difference.TheVariants.{Version, UserStrings, RowCount, Cell}
use Rattle.comparison.specs.declared.ignored.IgnoredColumns.{IgnoredColumns}
use Rattle.comparison.specs.Ignored.{is_ignored, no_columns}
use Rattle.comparison.specs.SameCells.{is_same_cell}

module _ (left right : Metadata) where
  -- the versions, if they differ
  abbrev pub version_difference : List Difference
  version_difference = if bytes_eq left.version right.version then [] else Version ∷ []

  -- the user strings, if they differ
  abbrev pub user_difference : List Difference
  user_difference = if bytes_eq left.user right.user then [] else UserStrings ∷ []

  -- the row counts of a table, if they differ
  abbrev pub count_difference : TableId → List Difference
  count_difference table = if count_in left table == count_in right table then [] else RowCount table (count_in left table) (count_in right table) ∷ []

  -- what differs besides cells: the version, the user strings, and the row counts in the order of the tables
  unfoldable pub outline_differences : List Difference
  outline_differences = version_difference ++ user_difference ++ flat_map count_difference tables

-- the cells that differ, but for those of ignored columns
module _ (ignored : IgnoredColumns) (left right : Metadata) where
  -- a cell, if it differs and its column is not ignored
  abbrev pub cell_difference : TableId → ℕ → ℕ → List Difference
  cell_difference table row cell_index =
      if is_ignored ignored table cell_index || is_same_cell (cell_in left table row cell_index) (cell_in right table row cell_index) then []
      else Cell table row cell_index ∷ []

  -- the cells of a row that differ
  unfoldable pub row_differences : TableId → ℕ → List Difference
  row_differences table row = flat_map (cell_difference table row) (range_with_len 0 (cell_count table))

  -- the cells that differ in the rows of a table that both models have
  unfoldable pub table_differences : TableId → List Difference
  table_differences table = flat_map (row_differences table) (range_with_len 1 (min (count_in left table) (count_in right table)))

  -- the cells that differ, in the order of tables, rows and columns
  unfoldable pub cell_differences_but : List Difference
  cell_differences_but = flat_map table_differences tables

  -- the first of the other differences, if there is one, and then the first cells that differ, at most this many
  unfoldable pub first_differences_but : ℕ → List Difference
  first_differences_but limit = take 1 (outline_differences left right) ++ take limit cell_differences_but

-- the same if no column is ignored
abbrev pub cell_differences : Metadata → Metadata → List Difference
cell_differences = cell_differences_but no_columns

abbrev pub first_differences : Metadata → Metadata → ℕ → List Difference
first_differences = first_differences_but no_columns

-- a cell of a row that the roots of both views have (II.24.2.6)
abbrev pub IsThere : List ℕ → List ℕ → Difference → Type 0
IsThere left right (Cell table row cell_index) =
    (1 ≤ row) × (row ≤ row_count left table) × (row ≤ row_count right table) × (cell_index < cell_count table)
IsThere left right _ = Unit {0}

-- the list grows by more items, but no further than the limit
abbrev pub Grows : ℕ → List Difference → List Difference → List Difference → Type 0
Grows limit before after more = after ≡ take limit (before ++ more)
