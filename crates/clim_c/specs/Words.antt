-- The words of other crates that the contracts of this crate use.
pub use Rattle.std.specs.Bool.{OnFalse, OnTrue}
pub use Rattle.std.specs.List.{SameFrom}
pub use Rattle.packed.specs.Codes.{name_of, number_of_code}
pub use Rattle.packed.specs.declared.code.FaultCode.{FaultCode as RuleCode}
pub use Rattle.packed.specs.Rule.{AllHold, FirstBroken}
pub use Rattle.root.specs.Root.{IsRoot}
pub use Rattle.root.specs.Streams.{Header}
pub use Rattle.pe.specs.Headers.{image_of}
pub use Rattle.cli_header.specs.declared.header.CliHeader.{CliHeader}
pub use Rattle.heap_entries.specs.Entries.{IsUserString, UserText}
pub use Rattle.heap_entries.specs.GuidText.{as_read}
pub use Rattle.heap_entries.specs.Padding.{zero_padded}
pub use Rattle.table_schema.specs.CellColumns.{cell_count, column_of}
pub use Rattle.table_schema.specs.Columns.{column_at, key_of}
pub use Rattle.table_schema.specs.Tables.{table_name, table_number}
pub use Rattle.table_schema.specs.declared.column.SigKind.{SigKind as Kind}
pub use Rattle.table_schema.specs.declared.column.ColumnKind.TheVariants.{Signature}
pub use Rattle.table_schema.specs.declared.token.Token.{Token as TheToken}
pub use Rattle.table_schema.specs.declared.table.TableId.{TableId as Table}
pub use Rattle.table_schema.specs.declared.table.TableId.TheVariants.{TypeDef}
pub use Rattle.schema.specs.ColumnNames.{column_names_of}
pub use Rattle.sig_grammar.specs.Syntax.{Body}
pub use Rattle.blob_values.specs.Items.{items_of}
pub use Rattle.blob_values.specs.Values.{AttributeValue}
pub use Rattle.metadata.specs.Cell.{Sig}
pub use Rattle.metadata.specs.Lookups.{HasNames, HasRow, IsFirstType}
pub use Rattle.metadata.specs.Metadata.{Metadata, cell_in, count_in}
pub use Rattle.metadata.specs.Model.{IsModel, IsModelOfFile}
pub use Rattle.metadata.specs.Rules.{rules_of_file, rules_of_metadata}
pub use Rattle.metadata.specs.Streams.{root_in}
pub use Rattle.metadata.specs.Valid.{IsValid}
pub use Rattle.reading.specs.Shown.{ShowsSignature}
pub use Rattle.opening.specs.Heads.{rules_of_heads}
pub use Rattle.opening.specs.Views.{AreFound, HasImage, HasModel, row_count, user_of}
pub use Rattle.opening.specs.Within.{IsSpentIn, IsSpentInFile, Left, named_bytes_in, named_bytes_in_file}
pub use Rattle.full_names.specs.RowNames.{IsRowName}
pub use Rattle.cli_faults.specs.declared.explained.Explanation.{Explanation as Explained}
pub use Rattle.root_writer.specs.Canonical.{canonical}
pub use Rattle.embedding.specs.declared.strong_name.StrongName.{StrongName}
pub use Rattle.comparison.specs.Differences.{first_differences}
pub use Rattle.c_values.specs.Items.{AreItems}
pub use Rattle.c_values.specs.Values.{IsValueAt}
pub use Rattle.c_values.specs.Given.{IsGiven}
pub use Rattle.c_values.specs.Refused.{IsGivenValid, IsRefused, refusal_of}
pub use Rattle.sha2.specs.Sha256.{sha256}
pub use Rattle.uuid.specs.Text.{braced_text, lower}
