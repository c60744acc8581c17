-- The parts of a model, besides its pools, that its canonical root is planned from (ECMA-335 II.24.2.1, II.24.2.4 and
-- II.24.2.6).
use Rattle.std.specs.Prelude.{◌≡◌, slice_index}
use Rattle.table_schema.specs.declared.table.TableId.{TableId}
use Rattle.table_schema.specs.Tables.{tables, table_number}
use Rattle.schema.specs.LaidOut.{bits_of}
use Rattle.heap_entries.specs.Padding.{zero_padded}
use Rattle.metadata.specs.Metadata.{Metadata, count_in}
use Rattle.root_writer.specs.TableStream.{is_sorted}
use Rattle.writer.specs.declared.root_outline.Outline.{Outline}

-- the outline is that of the model: its version; its user strings, once they are padded; the row count of each table;
-- and the bits of the keyed tables whose rows are in order
pub record Describes (outline : Outline) (model : Metadata) : Type 0 where
  pub version : outline.version.now ≡ model.version
  pub user : zero_padded outline.user_strings.now ≡ model.user
  pub counts : (table : TableId) → slice_index outline.counts (table_number table) ≡ count_in model table
  pub sorted : outline.sorted ≡ bits_of (is_sorted model) tables
