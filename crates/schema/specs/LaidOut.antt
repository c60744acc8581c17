-- A table stream (ECMA-335 II.24.2.6): the relation between its bytes, its sizes and the numbers in its tables.
use Rattle.std.specs.Prelude.{◌≡◌, ℕ, zero, suc, Bool, false, ◌-◌, ◌/◌, ◌%◌, ◌^◌, ◌<◌, ◌≤◌, List, [], ◌∷◌, ◌++◌, length, map, count_by, sum_by, if◌then◌else◌, slice_index, slice_index_or}
use Rattle.table_schema.specs.declared.table.TableId.{TableId}
use Rattle.table_schema.specs.declared.column.Column.{Column}
use Rattle.table_schema.specs.Tables.{table_number, table_index_of, tables}
use Rattle.table_schema.specs.Columns.{columns_of}
use Rattle.schema.specs.Sizes.{Sizes, count_of, header_size, width_of}

-- a number as `width` bytes, the lowest first; if it does not fit, the bytes are its low ones
abbrev pub number_bytes : ℕ → ℕ → List ℕ
number_bytes zero number = []
number_bytes (suc width) number = number % 256 ∷ number_bytes width (number / 256)

-- the bytes of a row: each number in the width of its column
abbrev pub row_bytes : Sizes → List Column → List ℕ → List ℕ
row_bytes sizes [] numbers = []
row_bytes sizes (column ∷ columns) [] = []
row_bytes sizes (column ∷ columns) (number ∷ numbers) = number_bytes (width_of sizes column) number ++ row_bytes sizes columns numbers

-- a row has one number for each column, and each fits its width
abbrev pub FitRow : Sizes → List Column → List ℕ → Type 0
FitRow sizes [] [] = Unit {0}
FitRow sizes [] (number ∷ numbers) = ⊥
FitRow sizes (column ∷ columns) [] = ⊥
FitRow sizes (column ∷ columns) (number ∷ numbers) = (number < 256 ^ width_of sizes column) × FitRow sizes columns numbers

-- the numbers of a row, cut to the widths of their columns: what their low bytes encode
abbrev pub fields_of : Sizes → List Column → List ℕ → List ℕ
fields_of sizes [] numbers = []
fields_of sizes (column ∷ columns) [] = []
fields_of sizes (column ∷ columns) (number ∷ numbers) = number % 256 ^ width_of sizes column ∷ fields_of sizes columns numbers

-- the bytes of rows, one after another
abbrev pub rows_bytes : Sizes → List Column → List (List ℕ) → List ℕ
rows_bytes sizes columns [] = []
rows_bytes sizes columns (row ∷ rows) = row_bytes sizes columns row ++ rows_bytes sizes columns rows

abbrev pub FitRows : Sizes → List Column → List (List ℕ) → Type 0
FitRows sizes columns [] = Unit {0}
FitRows sizes columns (row ∷ rows) = FitRow sizes columns row × FitRows sizes columns rows

-- the bytes of tables, one after another
abbrev pub tables_bytes : Sizes → List TableId → List (List (List ℕ)) → List ℕ
tables_bytes sizes [] numbers = []
tables_bytes sizes (table ∷ listed) [] = []
tables_bytes sizes (table ∷ listed) (rows ∷ numbers) = rows_bytes sizes (columns_of table) rows ++ tables_bytes sizes listed numbers

-- there is one list of rows for each table, and the rows fit
abbrev pub FitTables : Sizes → List TableId → List (List (List ℕ)) → Type 0
FitTables sizes [] [] = Unit {0}
FitTables sizes [] (rows ∷ numbers) = ⊥
FitTables sizes (table ∷ listed) [] = ⊥
FitTables sizes (table ∷ listed) (rows ∷ numbers) = FitRows sizes (columns_of table) rows × FitTables sizes listed numbers

-- a number with the bits of the tables that pass a test
unfoldable pub bits_of : (TableId → Bool) → List TableId → ℕ
bits_of test listed = sum_by (λ table. if test table then 2 ^ table_number table else 0) listed

-- the row counts of the tables that Valid names, each in four bytes
abbrev pub counts_bytes : (TableId → Bool) → Sizes → List TableId → List ℕ
counts_bytes counted sizes [] = []
counts_bytes counted sizes (table ∷ listed) = (if counted table then number_bytes 4 (count_of sizes table) else []) ++ counts_bytes counted sizes listed

-- The bytes are a table stream with these sizes and numbers: four reserved bytes; the version, 2 and 0; HeapSizes;
-- a reserved byte; Valid, with the bits of some tables; Sorted; the row counts of these tables; all numbers by table,
-- row and column; and any further bytes. A table that Valid does not name has no rows.
pub record IsLaidOut (stream : List ℕ) (sizes : Sizes) (numbers : List (List (List ℕ))) : Type 0 where
  pub reserved : List ℕ
  pub reserved_byte : ℕ
  pub counted : TableId → Bool
  pub tail : List ℕ
  pub whole : stream ≡ reserved ++ (2 ∷ 0 ∷ sizes.heap_sizes ∷ reserved_byte ∷ []) ++ number_bytes 8 (bits_of counted tables) ++ number_bytes 8 sizes.sorted
      ++ counts_bytes counted sizes tables ++ tables_bytes sizes tables numbers ++ tail
  pub reserved_long : length reserved ≡ 4
  pub heap_sizes_low : sizes.heap_sizes < 8
  pub sorted_low : sizes.sorted < 2 ^ 64
  pub uncounted : (table : TableId) → counted table ≡ false → count_of sizes table ≡ 0
  pub few : (table : TableId) → count_of sizes table ≤ 0xFFFFFF
  pub body : sizes.body ≡ header_size (count_by counted tables)
  pub counts : sizes.counts ≡ map length numbers
  pub fit : FitTables sizes tables numbers

-- the bytes are a table stream with these sizes
abbrev pub IsTableStream : List ℕ → Sizes → Type 0
IsTableStream stream sizes = (numbers : List (List (List ℕ))) × IsLaidOut stream sizes numbers

-- the number of a cell, by table, row from 1 and column from 0
abbrev pub number_in : List (List (List ℕ)) → TableId → ℕ → ℕ → ℕ
number_in numbers table row column = slice_index (slice_index_or (slice_index_or numbers (table_index_of table) []) (row - 1) []) column

-- these bytes are at an offset of the whole
pub record StandsAt (whole : List ℕ) (offset : ℕ) (bytes : List ℕ) : Type 0 where
  pub before : List ℕ
  pub after : List ℕ
  pub split : whole ≡ before ++ bytes ++ after
  pub long : length before ≡ offset
