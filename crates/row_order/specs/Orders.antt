-- Which tables are in order of their keys.
use Rattle.std.specs.Prelude.{◌≡◌, ℕ, ◌↔◌, Bool, false, IsTrue, List, Some, slice_index_or}
use Rattle.table_schema.specs.declared.table.TableId.{TableId}
use Rattle.table_schema.specs.Tables.{table_number}
use Rattle.table_schema.specs.Columns.{key_of}
use Rattle.metadata.specs.Source.{Source}
use Rattle.metadata.specs.RowRules.{IsInOrder}

-- whether the keys of each table with a key never decrease, by table number
abbrev pub ReportsOrder : Source → List Bool → Type 0
ReportsOrder source bits =
    (table : TableId) (key : ℕ) → key_of table ≡ Some key → IsTrue (slice_index_or bits (table_number table) false) ↔ IsInOrder source table key
