-- The words of other crates that this crate uses.
pub use Rattle.cli_lines.specs.Lines.{Part, plain, spaced, Value, field, member, number, word}
pub use Rattle.cli_lines.specs.Printed.{Adds, Begins, Prints}
pub use Rattle.cli_lines.specs.declared.names.Name.{Name}
pub use Rattle.cli_regions.specs.Kept.{seen, seen_what}
pub use Rattle.cli_regions.specs.Regions.{Region, What, cell, scalar}
pub use Rattle.metadata.specs.Metadata.{Metadata, cell_in, count_in}
pub use Rattle.packed.specs.Number.{little_endian}
pub use Rattle.packed.specs.Offsets.{part}
pub use Rattle.schema.specs.declared.located_cells.TableCell.{TableCell}
pub use Rattle.table_schema.specs.CellColumns.{is_padding, cell_count}
pub use Rattle.table_schema.specs.CodedIndexes.{tables_of, tag_bits}
pub use Rattle.table_schema.specs.Tables.{table_number, table_name}
pub use Rattle.table_schema.specs.declared.coded.Coded.{Coded}
pub use Rattle.table_schema.specs.declared.column.ColumnKind.{ColumnKind}
pub use Rattle.table_schema.specs.declared.table.TableId.{TableId}
pub use Rattle.type_heads.specs.FlagWords.{Word, words_of, shown_word}
