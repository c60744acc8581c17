-- The cell that the number in a column represents (ECMA-335 II.22 and II.24.2.6).
use Rattle.std.specs.Prelude.{◌≡◌, ℕ, ◌+◌, ◌≤◌, ◌⊎◌, Bool, true, List, Option, Some, None}
use Rattle.std.specs.List.{AllByRecursion}
use Rattle.table_schema.specs.declared.table.TableId.{TableId}
use Rattle.table_schema.specs.declared.token.Token.{Token}
use Rattle.table_schema.specs.declared.column.ColumnKind.{ColumnKind}
use Rattle.table_schema.specs.declared.column.ColumnKind.TheVariants as kind
use Rattle.table_schema.specs.CodedIndexes.{IsCoded}
use Rattle.heap_entries.specs.Entries.{IsText, IsBlob, IsGuid}
use Rattle.sig_grammar.specs.Syntax.{Body}
use Rattle.sig_grammar.specs.Encodes.{Encodes, tokens}
use Rattle.metadata.specs.Cell.{Cell, Number, Text, Bytes, Guid, Ref, Start, Sig}
use Rattle.metadata.specs.Source.{Source, rows_in, IsThere}

-- the cell is an existing row that a reference names, or null if the column allows null
abbrev pub Refers : Source → Bool → Token → Cell → Type 0
Refers source nullable token cell =
    ((token.row ≡ 0) × (nullable ≡ true) × (cell ≡ Ref None)) ⊎ (IsThere source token × (cell ≡ Ref (Some token)))

-- each type index in a signature refers to an existing row (II.23.2.8)
abbrev pub HasRows : Source → Body → Type 0
HasRows source signature = AllByRecursion (IsThere source) (tokens signature)

-- A number in a column of a kind represents a cell. Padding has no cell. For a list column, `start` gives the start of
-- the owner's run, by member table.
abbrev pub StandsFor : Source → ColumnKind → Bool → (TableId → ℕ) → ℕ → Cell → Type 0
StandsFor source kind.U8 nullable start number cell = cell ≡ Number number
StandsFor source kind.U16 nullable start number cell = cell ≡ Number number
StandsFor source kind.U32 nullable start number cell = cell ≡ Number number
StandsFor source kind.Padding nullable start number cell = ⊥
StandsFor source kind.Text nullable start number cell = (text : List ℕ) × IsText source.texts number text × (cell ≡ Text text)
StandsFor source kind.Guid nullable start number cell = (guid : Option (List ℕ)) × IsGuid source.guids number guid × (cell ≡ Guid guid)
StandsFor source kind.Blob nullable start number cell = (blob : List ℕ) × IsBlob source.blobs number blob × (cell ≡ Bytes blob)
StandsFor source (kind.Signature column) nullable start number cell =
    (blob : List ℕ) × (signature : Body) × IsBlob source.blobs number blob × Encodes column signature blob × HasRows source signature × (cell ≡ Sig signature)
StandsFor source (kind.Row table) nullable start number cell = Refers source nullable (record { table = table; row = number }) cell
StandsFor source (kind.Coded coded) nullable start number cell =
    (token : Token) × IsCoded coded number token.table token.row × Refers source nullable token cell
StandsFor source (kind.List member) nullable start number cell = (number ≤ rows_in source member + 1) × (cell ≡ Start (start member))
