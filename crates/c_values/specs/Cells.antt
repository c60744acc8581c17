-- The cells that a C caller gives and receives (ECMA-335 II.22).
use Rattle.std.specs.Prelude.{◌≡◌, ⊤, ℕ, ◌+◌, ◌<◌, List, [], ◌∷◌, Some, None, IsUtf8}
use Rattle.table_schema.specs.declared.table.TableId.{TableId}
use Rattle.table_schema.specs.declared.column.SigKind.{SigKind}
use Rattle.table_schema.specs.declared.column.ColumnKind.TheVariants as kind
use Rattle.table_schema.specs.Tables.{table_number}
use Rattle.table_schema.specs.CellColumns.{cell_count}
use Rattle.sig_grammar.specs.Syntax.{Body}
use Rattle.sig_grammar.specs.Encodes.{Encodes}
use Rattle.metadata.specs.Cell.{Cell}
use Rattle.metadata.specs.Cell as says
use Rattle.metadata.specs.Valid.{kind_at}
use Rattle.c_values.specs.declared.cell.ClimCell.{ClimCell}
use Rattle.c_values.specs.declared.cell_kind.CellKind.{CellKind}
use Rattle.c_values.specs.declared.cell_kind.CellKind.TheVariants.{Number, Text, Blob, NullGuid, Guid, NullRow, Row, Start, Signature}

-- the cell for C has this kind, these bytes, this number, this table and this GUID
abbrev pub HasFields : ClimCell → ℕ → List ℕ → ℕ → ℕ → List ℕ → Type 0
HasFields given kind bytes number table guid =
    (given.kind ≡ kind) × (given.bytes.now ≡ bytes) × (given.number ≡ number) × (given.table ≡ table) × (given.guid ≡ guid)

-- the number of each kind of cell
abbrev pub kind_number : CellKind → ℕ
kind_number Number = 1
kind_number Text = 2
kind_number Blob = 3
kind_number NullGuid = 4
kind_number Guid = 5
kind_number NullRow = 6
kind_number Row = 7
kind_number Start = 8
kind_number Signature = 9

-- the table has signatures of a kind in the column of a cell (II.22 and II.23.2)
abbrev pub HasSignatures : TableId → ℕ → SigKind → Type 0
HasSignatures table column signatures = (column < cell_count table) × (kind_at table column ≡ kind.Signature signatures)

-- the fields that belong to a kind encode the cell, at an index of a row of a table: a text is UTF-8, a row is one of a
-- table, and a signature is encoded in a column of signatures
abbrev pub EncodesAs : TableId → ℕ → CellKind → ClimCell → Cell → Type 0
EncodesAs table column Number given cell = cell ≡ says.Number given.number
EncodesAs table column Text given cell = IsUtf8 given.bytes.now × (cell ≡ says.Text given.bytes.now)
EncodesAs table column Blob given cell = cell ≡ says.Bytes given.bytes.now
EncodesAs table column NullGuid given cell = cell ≡ says.Guid None
EncodesAs table column Guid given cell = cell ≡ says.Guid (Some given.guid)
EncodesAs table column NullRow given cell = cell ≡ says.Ref None
EncodesAs table column Row given cell =
    (other : TableId) × (table_number other ≡ given.table) × (cell ≡ says.Ref (Some (record { table = other; row = given.number })))
EncodesAs table column Start given cell = cell ≡ says.Start given.number
EncodesAs table column Signature given cell =
    (signatures : SigKind) × HasSignatures table column signatures
    × ((signature : Body) × Encodes signatures signature given.bytes.now × (cell ≡ says.Sig signature))

-- the cell for C is this cell, at an index of a row of a table
abbrev pub IsCell : TableId → ℕ → ClimCell → Cell → Type 0
IsCell table column given cell = (kind : CellKind) × (kind_number kind ≡ given.kind) × EncodesAs table column kind given cell

-- the fields that belong to a kind are in order, whatever the bytes of a signature are
abbrev pub IsFormedAs : TableId → ℕ → CellKind → ClimCell → Type 0
IsFormedAs table column Text given = IsUtf8 given.bytes.now
IsFormedAs table column Row given = (other : TableId) × (table_number other ≡ given.table)
IsFormedAs table column Signature given = (signatures : SigKind) × HasSignatures table column signatures
IsFormedAs table column _ given = ⊤

-- the cell for C has a kind, and its fields are in order
abbrev pub IsFormed : TableId → ℕ → ClimCell → Type 0
IsFormed table column given = (kind : CellKind) × (kind_number kind ≡ given.kind) × IsFormedAs table column kind given

-- the cells for C are these cells, from an index of a row of a table on
abbrev pub AreCells : TableId → ℕ → List ClimCell → List Cell → Type 0
AreCells table column [] [] = ⊤
AreCells table column (given ∷ others) (cell ∷ cells) = IsCell table column given cell × AreCells table (column + 1) others cells
AreCells table column _ _ = ⊥
