-- What a source stands for, by its fields.
use Rattle.std.specs.Prelude.{◌≡◌, ◌≤◌, ◌+◌, ◌^◌, length, slice_index}
use Rattle.table_schema.specs.declared.table.TableId.{TableId}
use Rattle.table_schema.specs.Tables.{table_number}
use Rattle.schema.specs.Cells.{numbers_at}
use Rattle.metadata.specs.Source.{rows_in}
use Rattle.metadata.specs.SourceAt.{SourceAt}
use Rattle.reading.specs.declared.source.Source.TheInside.{Inside}

abbrev pub source_seen : Inside → SourceAt
source_seen source = record {
  source = record {
    sizes = source.rows.sizes;
    numbers = numbers_at source.rows.bytes source.rows.sizes;
    texts = source.strings;
    blobs = source.blobs.now;
    guids = source.guids.now;
  };
  offset = source.offset;
}

-- its counts are those of the tables, by table number
pub record IsSource (source : Inside) : Type 0 where
  pub counts : (table : TableId) → slice_index source.counts (table_number table) ≡ rows_in (source_seen source).source table
  pub low : source.offset + length source.rows.bytes ≤ 2 ^ 32
