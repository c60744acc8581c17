-- The fields of a layout: the sizes, and the offsets of each table and its columns (ECMA-335 II.24.2.6).
use Rattle.std.specs.Prelude.{◌≡◌, ℕ, ◌^◌, ◌<◌, ◌≤◌, List, length, slice_index, slice_index_or}
use Rattle.schema.specs.declared.header.Header.{Header}
use Rattle.schema.specs.declared.table_layout.TableLayout.{TableLayout}
use Rattle.table_schema.specs.declared.table.TableId.{TableId}
use Rattle.table_schema.specs.declared.table.TableId.TheVariants.{Module}
use Rattle.table_schema.specs.Tables.{tables}
use Rattle.table_schema.specs.Columns.{columns_of}
use Rattle.schema.specs.Sizes.{Sizes, count_of}
use Rattle.schema.specs.Offsets.{row_width, offset_in_row, table_start}

-- the sizes in a header
abbrev pub sizes_kept : Header → Sizes
sizes_kept header = record { counts = header.counts; heap_sizes = header.heap_sizes; sorted = header.sorted; body = header.body }

-- each table has at most 0xFFFFFF rows, and the first table has an offset below 256
pub record AreFew (sizes : Sizes) : Type 0 where
  pub counts : (table : TableId) → count_of sizes table ≤ 0xFFFFFF
  pub body : sizes.body < 256

-- the start of a table, its row width and the offsets of its columns
pub record IsTableLayout (sizes : Sizes) (table : TableId) (table_layout : TableLayout) : Type 0 where
  pub start : table_layout.start ≡ table_start sizes table
  pub low : table_layout.start ≤ 2 ^ 35
  pub row_width : table_layout.row_width ≡ row_width sizes table
  pub narrow : table_layout.row_width ≤ 36
  pub offsets : (column : ℕ) → column ≤ length (columns_of table) → slice_index table_layout.offsets column ≡ offset_in_row sizes table column

-- this for the first n tables
abbrev pub AreFirstTableLayouts : Sizes → ℕ → List TableLayout → Type 0
AreFirstTableLayouts sizes n table_layouts = (table_index : ℕ) (none : TableLayout) → table_index < n → IsTableLayout sizes (slice_index_or tables table_index Module) (slice_index_or table_layouts table_index none)

-- this for all tables
pub record AreTableLayouts (sizes : Sizes) (table_layouts : List TableLayout) : Type 0 where
  pub few : AreFew sizes
  pub each : AreFirstTableLayouts sizes 38 table_layouts
