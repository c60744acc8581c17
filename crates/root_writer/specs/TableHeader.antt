-- The header of a table stream, by its row counts (ECMA-335 II.24.2.6).
use Rattle.std.specs.Prelude.{ℕ, Bool, nat_lt, ◌^◌, if◌then◌else◌, List, [], ◌∷◌, ◌++◌}
use Rattle.table_schema.specs.declared.table.TableId.{TableId}
use Rattle.table_schema.specs.Tables.{tables, table_number}
use Rattle.schema.specs.Sizes.{Sizes, count_of}
use Rattle.schema.specs.LaidOut.{number_bytes, bits_of, counts_bytes}

-- the table has at least one row
abbrev pub is_counted : Sizes → TableId → Bool
is_counted sizes table = nat_lt 0 (count_of sizes table)

-- the bit of a table if it is set, else 0
abbrev pub bit_if : Bool → TableId → ℕ
bit_if set table = if set then 2 ^ table_number table else 0

-- a row count in four bytes if there are rows, else no bytes
abbrev pub count_bytes : ℕ → List ℕ
count_bytes count = if nat_lt 0 count then number_bytes 4 count else []

-- Reserved 0, MajorVersion 2, MinorVersion 0, HeapSizes, Reserved 1, Valid, Sorted and the counts of the tables that
-- have rows
unfoldable pub table_header : ℕ → ℕ → Sizes → List ℕ
table_header heap_sizes sorted sizes =
    (0 ∷ 0 ∷ 0 ∷ 0 ∷ []) ++ (2 ∷ 0 ∷ heap_sizes ∷ 1 ∷ []) ++ number_bytes 8 (bits_of (is_counted sizes) tables)
    ++ number_bytes 8 sorted ++ counts_bytes (is_counted sizes) sizes tables
