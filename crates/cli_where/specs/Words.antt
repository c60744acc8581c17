-- The words of other crates that this crate uses.
pub use Rattle.cli_files.specs.Checked.{IsModelOf, IsWhole, rules_of}
pub use Rattle.cli_files.specs.declared.opened.Input.{Input}
pub use Rattle.cli_files.specs.declared.opened.Input.TheVariants.{BareRoot, File}
pub use Rattle.cli_found.specs.Found.{kind_of, column_number}
pub use Rattle.cli_lines.specs.Lines.{Part, byte, field, hex, member, note, number, plain, units, word}
pub use Rattle.cli_lines.specs.Printed.{Printed, Prints, Completes}
pub use Rattle.cli_regions.specs.Kept.{Joins, Searched, Finds, seen, name_text, Adds}
pub use Rattle.cli_regions.specs.Regions.{Region, entry, has_byte, What, cell, scalar, user_string, words, regions_at}
pub use Rattle.heap_entries.specs.Entries.{IsCounted, IsEnded, IsGuidEntry, UserText, EncodesUserText, IsUserString}
pub use Rattle.heap_entries.specs.Padding.{zero_padded}
pub use Rattle.metadata.specs.Metadata.{Metadata}
pub use Rattle.metadata.specs.Model.{IsModelOfFile, IsModel}
pub use Rattle.packed.specs.Rule.{FirstBroken, AllHold, Rule}
pub use Rattle.root.specs.Streams.{RootRead, range_of, stream_of, stream_name}
pub use Rattle.root.specs.declared.kind.Kind.{Kind}
pub use Rattle.root.specs.declared.kind.Kind.TheVariants.{Strings, Guids, Blobs, UserStrings, Tables}
pub use Rattle.rows.specs.Cells.{Stream}
pub use Rattle.schema.specs.Cells.{number_at, cell_width}
pub use Rattle.schema.specs.Offsets.{cell_start, tables_end}
pub use Rattle.schema.specs.Sizes.{Sizes, count_of}
pub use Rattle.schema.specs.declared.located_cells.TableCell.{TableCell}
pub use Rattle.table_schema.specs.CellColumns.{is_padding}
pub use Rattle.table_schema.specs.Columns.{columns_of}
pub use Rattle.table_schema.specs.Tables.{tables, table_name, table_number}
pub use Rattle.table_schema.specs.declared.table.TableId.{TableId}
