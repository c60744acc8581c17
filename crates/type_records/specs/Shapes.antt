-- The shapes of the cells of a row, and their contents (ECMA-335 II.22).
use Rattle.std.specs.Prelude.{ℕ, ◌+◌, List, [], ◌∷◌, Option, Some, ⊤}
use Rattle.table_schema.specs.declared.column.SigKind.{SigKind}
use Rattle.table_schema.specs.declared.column.ColumnKind.{ColumnKind}
use Rattle.table_schema.specs.declared.column.ColumnKind.TheVariants as kind
use Rattle.metadata.specs.Cell.{Cell}
use Rattle.tables.specs.declared.cell.Cell.{Cell as Owned}
use Rattle.tables.specs.declared.cell.Cell.TheVariants as cell

-- the shape of a cell; a signature is encoded in a column of some kind
pub data Shape : Type 0 where
  number : Shape
  text : Shape
  bytes : Shape
  guid : Shape
  reference : Shape
  start : Shape
  signature : SigKind → Shape
  nothing : Shape

-- the shape of the cells of a column; a padding column has none
abbrev pub shape_of : ColumnKind → Shape
shape_of kind.U8 = number
shape_of kind.U16 = number
shape_of kind.U32 = number
shape_of kind.Padding = nothing
shape_of kind.Text = text
shape_of kind.Guid = guid
shape_of kind.Blob = bytes
shape_of (kind.Signature column) = signature column
shape_of (kind.Row table) = reference
shape_of (kind.Coded coded) = reference
shape_of (kind.List member) = start

-- there is an owned cell, and it has this shape
abbrev pub IsOfShape : Option Owned → Shape → Type 0
IsOfShape (Some (cell.Number n)) number = ⊤
IsOfShape (Some (cell.Text t)) text = ⊤
IsOfShape (Some (cell.Bytes b)) bytes = ⊤
IsOfShape (Some (cell.Guid g)) guid = ⊤
IsOfShape (Some (cell.Ref r)) reference = ⊤
IsOfShape (Some (cell.Start n)) start = ⊤
IsOfShape (Some (cell.Sig s)) (signature column) = ⊤
IsOfShape _ _ = ⊥

-- the cells from an index on have the shapes of columns of these kinds
abbrev pub AreHeld : (ℕ → Shape → Type 0) → ℕ → List ColumnKind → Type 0
AreHeld Holds cell_index [] = ⊤
AreHeld Holds cell_index (kind ∷ kinds) = Holds cell_index (shape_of kind) × AreHeld Holds (cell_index + 1) kinds

-- there is one cell for each kind, and these are the contents of the cells from an index on
abbrev pub AreSaid : (ℕ → Cell → Type 0) → ℕ → List ColumnKind → List Cell → Type 0
AreSaid Says cell_index [] [] = ⊤
AreSaid Says cell_index (kind ∷ kinds) (cell ∷ cells) = Says cell_index cell × AreSaid Says (cell_index + 1) kinds cells
AreSaid _ _ _ _ = ⊥
