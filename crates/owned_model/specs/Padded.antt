-- Tables after one table was filled (ECMA-335 II.22).
use Rattle.std.specs.Prelude.{List, slice_set}
use Rattle.table_schema.specs.declared.table.TableId.{TableId}
use Rattle.table_schema.specs.Tables.{table_index_of}
use Rattle.metadata.specs.Cell.{Cell}
use Rattle.metadata.specs.Metadata.{Metadata}

-- the same model with these rows in a table
abbrev pub with_rows : Metadata → TableId → List (List Cell) → Metadata
with_rows model table rows = record model { tables = slice_set model.tables (table_index_of table) rows }
