-- Tables with one more row (ECMA-335 II.22).
use Rattle.std.specs.Prelude.{List, [], ◌∷◌, ◌++◌, slice_set}
use Rattle.table_schema.specs.declared.table.TableId.{TableId}
use Rattle.table_schema.specs.Tables.{table_index_of}
use Rattle.metadata.specs.Cell.{Cell}
use Rattle.metadata.specs.Metadata.{Metadata, rows_of}

-- the same model with one more row at the end of a table
abbrev pub with_row : Metadata → TableId → List Cell → Metadata
with_row model table row = record model { tables = slice_set model.tables (table_index_of table) (rows_of model table ++ row ∷ []) }
