-- The cells that a column can hold (ECMA-335 II.22).
use Rattle.std.specs.Prelude.{◌≡◌, ◌<◌, ◌^◌, ⊤, List, [], ◌∷◌, length, Option, Some, IfSome, Contains, IsUtf8}
use Rattle.heap_entries.specs.Entries.{HasNoNul}
use Rattle.table_schema.specs.declared.table.TableId.{TableId}
use Rattle.table_schema.specs.declared.token.Token.{Token}
use Rattle.table_schema.specs.declared.column.ColumnKind.{ColumnKind}
use Rattle.table_schema.specs.declared.column.ColumnKind.TheVariants as kind
use Rattle.table_schema.specs.CodedIndexes.{tables_of}
use Rattle.sig_grammar.specs.Encodes.{Holds, IsEncodable}
use Rattle.metadata.specs.Cell.{Cell}
use Rattle.metadata.specs.Cell as cell

-- the reference is null, or to a row of one of the tables
abbrev pub IsTo : List (Option TableId) → Option Token → Type 0
IsTo listed reference = IfSome reference (λ token. Contains listed (Some token.table))

-- a number that fits its bytes; a text, GUID, bytes or signature; a row of the column's table, or of one of its coded
-- index's tables (II.24.2.6); or the start of a run. Padding has no cell.
abbrev pub IsOfKind : ColumnKind → Cell → Type 0
IsOfKind kind.U8 (cell.Number number) = number < 2 ^ 8
IsOfKind kind.U16 (cell.Number number) = number < 2 ^ 16
IsOfKind kind.U32 (cell.Number number) = number < 2 ^ 32
IsOfKind kind.Text (cell.Text text) = ⊤
IsOfKind kind.Guid (cell.Guid guid) = ⊤
IsOfKind kind.Blob (cell.Bytes bytes) = ⊤
IsOfKind (kind.Signature column) (cell.Sig signature) = ⊤
IsOfKind (kind.Row table) (cell.Ref reference) = IsTo (Some table ∷ []) reference
IsOfKind (kind.Coded coded) (cell.Ref reference) = IsTo (tables_of coded) reference
IsOfKind (kind.List member) (cell.Start row) = ⊤
IsOfKind _ _ = ⊥

-- a heap can store it: a text without NUL, fewer than 2^29 bytes, a GUID of sixteen bytes (II.24.2.3 to II.24.2.5)
abbrev pub IsStorable : Cell → Type 0
IsStorable (cell.Text text) = HasNoNul text × IsUtf8 text
IsStorable (cell.Bytes bytes) = length bytes < 2 ^ 29
IsStorable (cell.Guid guid) = IfSome guid (λ bytes. length bytes ≡ 16)
IsStorable _ = ⊤

-- a signature is of the column's kind and has an encoding (II.23.2)
abbrev pub IsHeld : ColumnKind → Cell → Type 0
IsHeld (kind.Signature column) (cell.Sig signature) = Holds column signature × IsEncodable signature
IsHeld _ _ = ⊤
