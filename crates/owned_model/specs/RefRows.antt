-- The values of a row that is read in place: their shapes, and the cells that they denote (ECMA-335 II.22).
use Rattle.std.specs.Prelude.{◌≡◌, ℕ, Option, Some, None, option_map, slice_get, ⊤}
use Rattle.table_schema.specs.declared.table.TableId.{TableId}
use Rattle.metadata.specs.Cell.{Cell, Number, Text, Bytes, Guid, Ref, Start, Sig}
use Rattle.reading.specs.declared.cell_ref.CellRef.{CellRef}
use Rattle.reading.specs.declared.cell_ref.CellRef.TheVariants as seen
use Rattle.reading.specs.Shown.{ShowsCell}
use Rattle.type_records.specs.Kinds.{kinds_of}
use Rattle.type_records.specs.Shapes.{Shape, number, text, bytes, guid, reference, start, signature, shape_of}
use Rattle.type_records.specs.Signatures.{encoded}
use Rattle.owned_model.specs.declared.ref_row.RefRow.{RefRow}

-- there is a value, and it equals the cell of the table at this index
abbrev pub IsShown : Option CellRef → TableId → ℕ → Cell → Type 0
IsShown None table cell_index cell = ⊥
IsShown (Some value) table cell_index cell = ShowsCell table cell_index value cell

-- there is a value, and it is of this shape
abbrev pub IsRefOfShape : Option CellRef → Shape → Type 0
IsRefOfShape (Some (seen.Number n)) number = ⊤
IsRefOfShape (Some (seen.Text t)) text = ⊤
IsRefOfShape (Some (seen.Bytes b)) bytes = ⊤
IsRefOfShape (Some (seen.Guid g)) guid = ⊤
IsRefOfShape (Some (seen.Ref r)) reference = ⊤
IsRefOfShape (Some (seen.Start n)) start = ⊤
IsRefOfShape (Some (seen.Sig blob)) (signature column) = ⊤
IsRefOfShape _ _ = ⊥

-- the shape of the cells at an index of a table's rows
unfoldable pub shape_at : TableId → ℕ → Option Shape
shape_at table cell_index = option_map shape_of (slice_get (kinds_of table) cell_index)

-- there is a value, and it denotes this cell in a column of the shape: a blob in a signature column denotes the
-- signature that it encodes (II.23.2)
abbrev pub IsSaid : Option CellRef → Option Shape → Cell → Type 0
IsSaid (Some (seen.Number n)) shape cell = cell ≡ Number n
IsSaid (Some (seen.Text t)) shape cell = cell ≡ Text t.now
IsSaid (Some (seen.Bytes b)) shape cell = cell ≡ Bytes b.now
IsSaid (Some (seen.Guid g)) shape cell = cell ≡ Guid g
IsSaid (Some (seen.Ref r)) shape cell = cell ≡ Ref r
IsSaid (Some (seen.Start n)) shape cell = cell ≡ Start n
IsSaid (Some (seen.Sig blob)) (Some (signature column)) cell = cell ≡ Sig (encoded column blob.now)
IsSaid _ _ _ = ⊥

-- the value at an index is of the shape of its column, and that is this shape
abbrev pub HoldsAt : RefRow → ℕ → Shape → Type 0
HoldsAt row cell_index shape = IsRefOfShape (slice_get row.values cell_index) shape × (shape_at row.table cell_index ≡ Some shape)

-- the value at an index denotes the cell
abbrev pub SaysAt : RefRow → ℕ → Cell → Type 0
SaysAt row cell_index cell = IsSaid (slice_get row.values cell_index) (shape_at row.table cell_index) cell
