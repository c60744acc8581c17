-- The words of other crates that this crate uses.
pub use Rattle.checks.specs.Broken.{IsFirstBroken, IsBroken, IsBrokenRow}
pub use Rattle.checks.specs.declared.cell_checks.BrokenRow.{BrokenRow}
pub use Rattle.cli_files.specs.Checked.{rules_before, source_in, IsModelOf, IsWhole, rules_of}
pub use Rattle.cli_lines.specs.Lines.{Part, Value, word, field, note, row_number, row_token, spaced, member, units, form_from, line_feed, part_letters, part_text}
pub use Rattle.cli_lines.specs.Names.{label_text, name_text, column_name}
pub use Rattle.cli_lines.specs.Printed.{Printed, Prints, Adds, Begins, AwaitsOrFails}
pub use Rattle.heap_entries.specs.Padding.{zero_padded}
pub use Rattle.metadata.specs.Cell.{Cell, Number, Text, Bytes, Guid, Ref, Start, Sig}
pub use Rattle.metadata.specs.Metadata.{Metadata, count_in, cell_in}
pub use Rattle.metadata.specs.Model.{IsModel}
pub use Rattle.metadata.specs.Source.{Source, rows_in, number_of}
pub use Rattle.metadata.specs.SourceAt.{SourceAt}
pub use Rattle.opening.specs.Views.{row_count, user_of}
pub use Rattle.packed.specs.Rule.{AllHold, FirstBroken}
pub use Rattle.reading.specs.Shown.{Shows}
pub use Rattle.sig_grammar.specs.Encodes.{short, Encodes}
pub use Rattle.sig_grammar.specs.Syntax.{Body}
pub use Rattle.table_schema.specs.CellColumns.{cell_count, column_of, is_padding}
pub use Rattle.table_schema.specs.Columns.{column_at, columns_of}
pub use Rattle.table_schema.specs.Tables.{table_index_of, table_number, table_name}
pub use Rattle.table_schema.specs.Tokens.{token_text, IsToken}
pub use Rattle.table_schema.specs.declared.column.ColumnKind.{ColumnKind}
pub use Rattle.table_schema.specs.declared.table.TableId.{TableId}
pub use Rattle.table_schema.specs.declared.token.Token.{Token}
