-- The cell that a value in place stands for.
use Rattle.std.specs.Prelude.{◌≡◌, ℕ, List}
use Rattle.table_schema.specs.declared.table.TableId.{TableId}
use Rattle.table_schema.specs.declared.column.ColumnKind.{ColumnKind}
use Rattle.table_schema.specs.declared.column.ColumnKind.TheVariants as kind
use Rattle.table_schema.specs.Columns.{column_at}
use Rattle.table_schema.specs.CellColumns.{column_of}
use Rattle.heap_entries.specs.Entries.{IsBlob}
use Rattle.sig_grammar.specs.Syntax.{Body}
use Rattle.sig_grammar.specs.Encodes.{Encodes}
use Rattle.metadata.specs.Cell.{Cell, Number, Text, Bytes, Guid, Ref, Start, Sig}
use Rattle.metadata.specs.Source.{Source}
use Rattle.reading.specs.declared.cell_ref.CellRef.{CellRef}
use Rattle.reading.specs.declared.cell_ref.CellRef.TheVariants as seen

-- the blob encodes the signature of the cell, in a column of signatures
abbrev pub ShowsSignature : ColumnKind → List ℕ → Cell → Type 0
ShowsSignature (kind.Signature column) blob cell = (signature : Body) × Encodes column signature blob × (cell ≡ Sig signature)
ShowsSignature _ blob cell = ⊥

-- the value stands for the cell, in a column of a kind: a signature by its blob, any other cell directly
abbrev pub Shows : ColumnKind → CellRef → Cell → Type 0
Shows column (seen.Number number) cell = cell ≡ Number number
Shows column (seen.Text text) cell = cell ≡ Text text.now
Shows column (seen.Bytes blob) cell = cell ≡ Bytes blob.now
Shows column (seen.Guid guid) cell = cell ≡ Guid guid
Shows column (seen.Ref token) cell = cell ≡ Ref token
Shows column (seen.Start start) cell = cell ≡ Start start
Shows column (seen.Sig blob) cell = ShowsSignature column blob.now cell

-- the blob of a signature is the blob at the number's index
abbrev pub ShowsBlob : Source → ℕ → CellRef → Type 0
ShowsBlob source number (seen.Sig blob) = IsBlob source.blobs number blob.now
ShowsBlob source number _ = Unit {0}

-- the value stands for the cell of a table, given by its index in the row
abbrev pub ShowsCell : TableId → ℕ → CellRef → Cell → Type 0
ShowsCell table cell_index value cell = Shows (column_at table (column_of table cell_index)).kind value cell
