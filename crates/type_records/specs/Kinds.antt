-- The kinds of the cells of a table's rows (ECMA-335 II.22).
use Rattle.std.specs.Prelude.{List, [], ◌∷◌, ⊤, if◌then◌else◌}
use Rattle.table_schema.specs.declared.table.TableId.{TableId}
use Rattle.table_schema.specs.declared.column.Column.{Column}
use Rattle.table_schema.specs.declared.column.ColumnKind.{ColumnKind}
use Rattle.table_schema.specs.Columns.{columns_of}
use Rattle.table_schema.specs.CellColumns.{is_padding}
use Rattle.metadata.specs.Cell.{Cell}
use Rattle.metadata.specs.Kinds.{IsOfKind}

-- the kinds of the columns that have a cell; a padding column has none
abbrev pub kinds_in : List Column → List ColumnKind
kinds_in [] = []
kinds_in (column ∷ columns) = if is_padding column.kind then kinds_in columns else column.kind ∷ kinds_in columns

-- the kinds of the cells of a table's rows, in order
abbrev pub kinds_of : TableId → List ColumnKind
kinds_of table = kinds_in (columns_of table)

-- there is one cell for each kind, and it is of this kind
abbrev pub AreOfKinds : List ColumnKind → List Cell → Type 0
AreOfKinds [] [] = ⊤
AreOfKinds (kind ∷ kinds) (cell ∷ cells) = IsOfKind kind cell × AreOfKinds kinds cells
AreOfKinds _ _ = ⊥
