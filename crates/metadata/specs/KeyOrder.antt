-- The key numbers of a model's tables, and their order (ECMA-335 II.22 and II.24.2.6).
use Rattle.std.specs.Prelude.{ℕ, ◌-◌, ◌+◌, ◌*◌, ◌^◌, ◌≤◌, Some}
use Rattle.std.specs.List.{position_or_len}
use Rattle.table_schema.specs.declared.table.TableId.{TableId}
use Rattle.table_schema.specs.declared.token.Token.{Token}
use Rattle.table_schema.specs.declared.column.ColumnKind.{ColumnKind}
use Rattle.table_schema.specs.declared.column.ColumnKind.TheVariants as kind
use Rattle.table_schema.specs.CodedIndexes.{tables_of, tag_bits}
use Rattle.sig_grammar.specs.Parts.{is_table}
use Rattle.metadata.specs.Cell.{Cell, Ref}
use Rattle.metadata.specs.Metadata.{Metadata, count_in, cell_in}
use Rattle.metadata.specs.Lookups.{IsKeyCell}
use Rattle.metadata.specs.Valid.{kind_at}

-- the number of a row in a column: for a coded index, the row in the high bits and the tag in the low bits (II.24.2.6)
abbrev pub row_number : ColumnKind → Token → ℕ
row_number (kind.Coded coded) token = token.row * 2 ^ tag_bits coded + position_or_len (is_table token.table) (tables_of coded)
row_number _ token = token.row

-- the number of a reference; null is 0
abbrev pub key_number : ColumnKind → Cell → ℕ
key_number kind (Ref (Some token)) = row_number kind token
key_number kind _ = 0

-- the key number of a row, by the cell of the key
abbrev pub key_in : Metadata → TableId → ℕ → ℕ → ℕ
key_in model table cell_index row = key_number (kind_at table cell_index) (cell_in model table row cell_index)

-- the key numbers of a table never decrease
abbrev pub IsKeyOrdered : Metadata → TableId → Type 0
IsKeyOrdered model table =
    (cell_index row : ℕ) → IsKeyCell table cell_index → 2 ≤ row → row ≤ count_in model table → key_in model table cell_index (row - 1) ≤ key_in model table cell_index row
