-- The line of the offset of a fault: the number there, and what its rule compares it with (ECMA-335 II.22 to II.25).
use Rattle.std.specs.Prelude.{◌≡◌, ◌⊎◌, ◌&&◌, ◌-◌, ◌+◌, ◌/◌, ◌%◌, ◌^◌, ◌==◌, ℕ, Bool, not, nat_le, nat_lt, if◌then◌else◌, List, [], ◌∷◌, ◌++◌, codes, count_by, decimal, length, take, Option, None, Some, option_and_then, option_map, slice_get}
use Rattle.std.specs.List.{list_any}
use Rattle.packed.specs.Codes.{number_of_code}
use Rattle.packed.specs.declared.code.FaultCode.{FaultCode}
use Rattle.packed.specs.declared.code.FaultCode.TheVariants.{DosHeader, PeSignature, OptionalHeader, Pe32PlusSize, Magic, Directories, Sections, NoCliHeader, CliAddress, CliSize, MetadataAddress, RootSignature, Version, NoTables, TablesVersion, HeapSizes, UnknownTable, RowCount, NotSorted, BadRun, NoOwner, NestedOrder, EntryPoint}
use Rattle.cli_found.specs.Words.{little_endian, part, TableId, Coded, ColumnKind, is_padding, tables_of, tag_bits, table_name, TableCell, Name, Part, Value, field, member, number, plain, word, Region, What, cell}
use Rattle.packed.specs.Rule.{AllHold}
use Rattle.root.specs.declared.kind.Kind.{Kind}
use Rattle.root.specs.declared.kind.Kind.TheVariants.{Strings, Guids, Blobs}
use Rattle.root.specs.Streams.{stream_name}
use Rattle.table_schema.specs.declared.column.Column.{Column}
use Rattle.table_schema.specs.declared.column.ColumnKind.TheVariants as kind
use Rattle.table_schema.specs.Columns.{column_at, columns_of}
use Rattle.table_schema.specs.Tokens.{hexadecimal}
use Rattle.metadata.specs.Source.{Source, number_of, rows_in}
use Rattle.cli_files.specs.Checked.{rules_before, source_in}
use Rattle.cli_files.specs.declared.opened.Input.{Input}
use Rattle.cli_lines.specs.declared.names.Name.TheVariants as name
use Rattle.cli_found.specs.declared.lines.Lead.{Lead}

-- ---- what a line says

-- an offset, in hexadecimal
abbrev pub offset_text : ℕ → List ℕ
offset_text offset = codes "0x" ++ hexadecimal 1 offset

-- the line of an offset at which the rule is about no number, or about more than one
unfoldable pub offset_line : ℕ → List Part
offset_line offset = member name.Offset (number offset) ∷ word (offset_text offset) ∷ []

-- a number after its offset: with its tag and row if it is a coded index (II.24.2.6)
abbrev pub value_text : ℕ → ℕ → Option Coded → List ℕ
value_text offset of None = codes "0x" ++ hexadecimal 1 offset ++ codes ": value " ++ decimal of ++ codes " (0x" ++ hexadecimal 1 of ++ codes ")"
value_text offset of (Some coded) =
    codes "0x" ++ hexadecimal 1 offset ++ codes ": value " ++ decimal of
    ++ codes " (tag " ++ decimal (of % 2 ^ tag_bits coded) ++ codes ", row " ++ decimal (of / 2 ^ tag_bits coded) ++ codes ")"

-- the line of a number, with what it is compared with
unfoldable pub value_line : ℕ → ℕ → Option Coded → List Part → List Part
value_line offset of coded limit = member name.Offset (number offset) ∷ word (value_text offset of coded) ∷ member name.Value (number of) ∷ limit

-- something that has a limit, in items of a unit
abbrev pub limit_parts : List ℕ → Name → Value → ℕ → List ℕ → List Part
limit_parts before named of limit unit =
    word (codes "; ") ∷ word before ∷ field named of ∷ word (codes " has ") ∷ field name.Limit (number limit) ∷ word unit ∷ []

-- ---- what a rule compares the number in a cell with

abbrev pub heap_limit : Kind → ℕ → List ℕ → List Part
heap_limit heap size unit = limit_parts [] name.Stream (plain (stream_name heap)) size unit

abbrev pub rows_limit : Source → TableId → List Part
rows_limit source table = limit_parts [] name.Table (plain (table_name table)) (rows_in source table) (codes " rows")

-- the table of a coded index, by its tag
abbrev pub tagged_limit : Source → Option (Option TableId) → List Part
tagged_limit source (Some (Some table)) = rows_limit source table
tagged_limit source _ = []

-- the size of what a number in a column of a kind refers to
abbrev pub kind_limit : Source → ColumnKind → ℕ → List Part
kind_limit source kind.Text of = heap_limit Strings (length source.texts) (codes " bytes")
kind_limit source kind.Guid of = heap_limit Guids (length source.guids / 16) (codes " GUIDs")
kind_limit source kind.Blob of = heap_limit Blobs (length source.blobs) (codes " bytes")
kind_limit source (kind.Signature _) of = heap_limit Blobs (length source.blobs) (codes " bytes")
kind_limit source (kind.Row table) of = rows_limit source table
kind_limit source (kind.List table) of = rows_limit source table
kind_limit source (kind.Coded coded) of = tagged_limit source (slice_get (tables_of coded) (of % 2 ^ tag_bits coded))
kind_limit source _ of = []

-- a column is one of the standard's, and no padding (II.22.9)
abbrev pub is_counted : Column → Bool
is_counted column = not (is_padding column.kind)

-- the number of a column, from 0: that of the columns before it, without padding
abbrev pub column_number : TableCell → ℕ
column_number of = count_by is_counted (take of.column (columns_of of.table))

abbrev pub kind_of : TableCell → ColumnKind
kind_of at = (column_at at.table at.column).kind

abbrev pub coded_of : ColumnKind → Option Coded
coded_of (kind.Coded coded) = Some coded
coded_of _ = None

-- the number in a cell, if the tables have it
abbrev pub is_cell : Source → TableCell → Bool
is_cell source at = nat_le 1 at.row && nat_le at.row (rows_in source at.table) && nat_lt at.column (length (columns_of at.table))

abbrev pub number_in : Source → TableCell → Option ℕ
number_in source at = if is_cell source at then Some (number_of source at.table at.row at.column) else None

-- the number in another cell, if the tables have it
abbrev pub number_limit : List ℕ → Name → Value → Option ℕ → List Part
number_limit before label value None = []
number_limit before label value (Some of) = limit_parts before label value of []

-- that in the same column of the row before
abbrev pub earlier_limit : Source → TableCell → List Part
earlier_limit source at = number_limit (codes "row ") name.Row (number (at.row - 1)) (number_in source (record at { row = at.row - 1 }))

-- that in column NestedClass of the same row (II.22.32)
abbrev pub nested_limit : Source → TableCell → List Part
nested_limit source at = number_limit [] name.Column (plain (codes "NestedClass")) (number_in source (record at { column = 0 }))

-- by the rule: for the order of rows a number in another cell, or the number of rows without an owner (II.22)
abbrev pub limit_of : FaultCode → Source → TableCell → ℕ → List Part
limit_of NotSorted source at of = earlier_limit source at
limit_of BadRun source at of = earlier_limit source at
limit_of NestedOrder source at of = nested_limit source at
limit_of NoOwner source at of = rows_limit source at.table
limit_of rule source at of = kind_limit source (kind_of at) of

-- the number in a cell, and what the rule compares it with
abbrev pub number_of_cell : FaultCode → Source → TableCell → ℕ → Option (Lead × List Part)
number_of_cell rule source at offset =
    option_map (λ of. (record { offset = offset; number = of; coded = coded_of (kind_of at) }, limit_of rule source at of)) (number_in source at)

-- ---- the number in a header

-- the rule is one of these
abbrev pub is_of : FaultCode → List FaultCode → Bool
is_of rule rules = list_any (λ of. number_of_code of == number_of_code rule) rules

-- the number of bytes at the offset of a fault that its rule is about; none if it is about a cell, or about more than one number
abbrev pub field_size : FaultCode → Option ℕ
field_size rule =
    if is_of rule (HeapSizes ∷ []) then Some 1
    else (if is_of rule (DosHeader ∷ OptionalHeader ∷ Pe32PlusSize ∷ Magic ∷ Sections ∷ NoTables ∷ TablesVersion ∷ []) then Some 2
    else (if is_of rule (PeSignature ∷ Directories ∷ NoCliHeader ∷ CliAddress ∷ CliSize ∷ MetadataAddress ∷ RootSignature ∷ Version ∷ RowCount ∷ EntryPoint ∷ []) then Some 4
    else (if is_of rule (UnknownTable ∷ []) then Some 8 else None)))

-- the number of this size at an offset, if the bytes have it
abbrev pub lead_at : List ℕ → ℕ → ℕ → Option Coded → Option Lead
lead_at bytes offset size coded =
    if nat_le (offset + size) (length bytes) then Some (record { offset = offset; number = little_endian (part bytes offset size); coded = coded }) else None

-- ---- the line at a fault

abbrev pub cell_of : What → Option TableCell
cell_of (cell of) = Some of
cell_of _ = None

-- the last of these structures
abbrev pub last_of : List Region → Option Region
last_of structures = slice_get structures (length structures - 1)

-- the cell that it is
abbrev pub innermost : List Region → Option TableCell
innermost structures = option_and_then (λ of. cell_of of.what) (last_of structures)

-- the number in a cell; none if a rule before those for cells is broken
abbrev pub IsOfCell : FaultCode → Input → List ℕ → ℕ → Option TableCell → Option (Lead × List Part) → Type 0
IsOfCell rule input bytes offset None found = found ≡ None
IsOfCell rule input bytes offset (Some at) found =
    (AllHold (rules_before input bytes) × (found ≡ number_of_cell rule (source_in input bytes).source at offset)) ⊎ ((¬ AllHold (rules_before input bytes)) × (found ≡ None))

-- the number of a field of this size, or that in the innermost structure
abbrev pub IsFound : Option ℕ → FaultCode → Input → List ℕ → ℕ → List Region → Option (Lead × List Part) → Type 0
IsFound None rule input bytes offset structures found = IsOfCell rule input bytes offset (innermost structures) found
IsFound (Some size) rule input bytes offset structures found = found ≡ option_map (λ lead. (lead, [])) (lead_at bytes offset size None)

-- the line of a number with what it is compared with, or that of the offset
abbrev pub line_of : ℕ → Option (Lead × List Part) → List Part
line_of offset None = offset_line offset
line_of offset (Some of) = value_line of.0.offset of.0.number of.0.coded of.1

-- The line of the offset of a fault of a rule, with the number there if the rule is about one. The structures are those that
-- contain the byte at the offset, outermost first.
abbrev pub AreFound : FaultCode → Input → List ℕ → ℕ → List Region → List (List Part) → Type 0
AreFound rule input bytes offset structures lines =
    (found : Option (Lead × List Part)) × IsFound (field_size rule) rule input bytes offset structures found × (lines ≡ line_of offset found ∷ [])
