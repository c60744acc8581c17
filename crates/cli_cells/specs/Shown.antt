-- The cells that are read for the numbers of rows, whether or not the later rules hold (ECMA-335 II.22).
use Rattle.std.specs.Prelude.{◌≡◌, ◌==◌, ℕ, zero, suc, ◌*◌, ◌/◌, ◌%◌, ◌^◌, if◌then◌else◌, List, [], ◌∷◌, take, drop, Option, Some, None, slice_get}
use Rattle.packed.specs.Prefix.{unsigned_at}
use Rattle.cli_cells.specs.Words.{TableId, ColumnKind, column_at, column_of, Body, Cell, Number, Text, Bytes, Guid, Ref, Start, Sig, Metadata, count_in, cell_in, IsModel, Source, rows_in, number_of}
use Rattle.table_schema.specs.declared.coded.Coded.{Coded}
use Rattle.table_schema.specs.declared.column.SigKind.{SigKind}
use Rattle.table_schema.specs.declared.column.ColumnKind.TheVariants as kind
use Rattle.table_schema.specs.CodedIndexes.{tables_of, tag_bits}
use Rattle.sig_grammar.specs.Reading.{core_at}
use Rattle.sig_grammar.specs.Columns.{body_at}
use Rattle.metadata.specs.Starts.{start_of}

-- the text at an index (II.24.2.3): the bytes up to the first NUL; at index 0 none
abbrev pub text_of : List ℕ → List ℕ
text_of [] = []
text_of (byte ∷ bytes) = if byte == 0 then [] else byte ∷ text_of bytes

abbrev pub text_at : List ℕ → ℕ → List ℕ
text_at heap zero = []
text_at heap (suc before) = text_of (drop (suc before) heap)

-- the blob at an index (II.24.2.4): the bytes after their packed length; at index 0 none
abbrev pub counted : List ℕ → Option (ℕ × ℕ) → List ℕ
counted bytes None = []
counted bytes (Some read) = take read.0 (drop read.1 bytes)

abbrev pub blob_at : List ℕ → ℕ → List ℕ
blob_at heap zero = []
blob_at heap (suc before) = counted (drop (suc before) heap) (unsigned_at (drop (suc before) heap))

-- the GUID with a number from 1 (II.24.2.5)
abbrev pub guid_at : List ℕ → ℕ → Option (List ℕ)
guid_at heap zero = None
guid_at heap (suc before) = Some (take 16 (drop (16 * before) heap))

-- a row of a table; row 0 is null
abbrev pub row_at : TableId → ℕ → Cell
row_at table zero = Ref None
row_at table (suc before) = Ref (Some (record { table = table; row = suc before }))

-- the row of a coded index (II.24.2.6): the tag is in the low bits
abbrev pub tagged : Option (Option TableId) → ℕ → Cell
tagged (Some (Some table)) row = row_at table row
tagged _ row = Number 0

abbrev pub coded_at : Coded → ℕ → Cell
coded_at coded number = tagged (slice_get (tables_of coded) (number % 2 ^ tag_bits coded)) (number / 2 ^ tag_bits coded)

-- the signature in all the bytes of a blob (II.23.2), or the bytes if they encode none
abbrev pub signature_of : List ℕ → Option (Body × List ℕ) → Cell
signature_of blob (Some (signature, [])) = Sig signature
signature_of blob _ = Bytes blob

abbrev pub signature_at : SigKind → List ℕ → Cell
signature_at column blob = signature_of blob (body_at column (core_at 128) blob)

-- the cell of a number in a column of a kind. For a list column, `start` gives the start of the owner's run
abbrev pub read_cell : Source → ColumnKind → (TableId → ℕ) → ℕ → Cell
read_cell source kind.Padding start number = Number 0
read_cell source kind.Text start number = Text (text_at source.texts number)
read_cell source kind.Guid start number = Guid (guid_at source.guids number)
read_cell source kind.Blob start number = Bytes (blob_at source.blobs number)
read_cell source (kind.Signature column) start number = signature_at column (blob_at source.blobs number)
read_cell source (kind.Row table) start number = row_at table number
read_cell source (kind.Coded coded) start number = coded_at coded number
read_cell source (kind.List member) start number = Start (start member)
read_cell source _ start number = Number number

-- the cell of a column, in a row counted from 1
unfoldable pub cell_at : Source → TableId → ℕ → ℕ → Cell
cell_at source table row column = read_cell source (column_at table column).kind (start_of source table row column) (number_of source table row column)

-- tables that can be shown: their numbers of rows, and their cells by row from 1 and index
pub record Content : Type 0 where
  pub count : TableId → ℕ
  pub cell : TableId → ℕ → ℕ → Cell

abbrev pub content_of : Metadata → Content
content_of model = record { count = count_in model; cell = cell_in model }

abbrev pub content_at : Source → Content
content_at source = record { count = rows_in source; cell = λ table row cell_index. cell_at source table row (column_of table cell_index) }

-- it is that of a model of the root
abbrev pub IsContent : List ℕ → Content → Type 0
IsContent root content = (model : Metadata) × IsModel root model × (content ≡ content_of model)
