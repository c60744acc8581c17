-- The number of rows of each table.
use Rattle.std.specs.Prelude.{◌≡◌, ◌≤◌, slice_index}
use Rattle.table_schema.specs.declared.table.TableId.{TableId}
use Rattle.table_schema.specs.Tables.{table_number}
use Rattle.metadata.specs.Metadata.{count_in}
use Rattle.tables.specs.declared.counted.Counted.TheInside.{Inside}

-- each table is within the limit of rows, and its number of rows is kept by table number
pub record IsCounted (counted : Inside) : Type 0 where
  pub counts : (table : TableId) → slice_index counted.counts (table_number table) ≡ count_in counted.tables.now table
  pub few : (table : TableId) → count_in counted.tables.now table ≤ 0xFFFFFF
