-- What several proofs of this crate name of std, of the crates below, and of its own definitions.
pub use Rattle.std.proofs.Common.{◌≡◌, ◌∙◌, ℕ, ◌-◌, ◌<◌, ◌≤◌, ◌==◌, Bool, true, false, Option, Some, None, refl, sym, ap, subst, arith, nat_lt, if◌then◌else◌, zero, suc, ◌+◌, List, [], ◌∷◌, ◌++◌, ◌⊎◌, inl, inr, ◌≢◌, ◌*◌, ◌/◌, ◌%◌, ◌^◌, length, take, drop, append_assoc, append-nil, map, get_or, All, eqb-true, ltb-true, ne_eqb, eq-eqb, slice_index_or, is_some}
pub use Rattle.std.proofs.lemmas.List.{flat_map_more, take_all, take_more, drop_more, take-append-drop}
pub use Rattle.std.proofs.lemmas.List.Elements.{All-head, All-tail, All-more, All-nil}
pub use Rattle.std.specs.List.{range_with_len, flat_map}
pub use Rattle.packed.proofs.RuleLemmas.{each_holds, none_fails}
pub use Rattle.cli_cells.specs.Words.{AllHold, is_padding, column_of, cell_count, columns_of, column_at, ColumnKind, TableId, Metadata, count_in, IsModel, rows_in, Source, SourceAt, IsBroken, IsBrokenRow, IsFirstBroken, BrokenRow, source_in, rules_before, Part, form_from, line_feed, part_letters, part_text, Adds, AwaitsOrFails, Printed, Prints}
pub use Rattle.table_schema.specs.declared.table.TableId.TheVariants.{Module}
pub use Rattle.metadata.specs.Rows.{table_at, StandsIn}
pub use Rattle.metadata.specs.Rules.{MayRefer, rules_of_number}
unfoldable pub use Rattle.metadata.specs.Rules.{rules_of_cells, rules_of_table, rules_of_table_at, rules_of_row, rules_of_cell}
unfoldable pub use Rattle.metadata.specs.Source.{number_of}
unfoldable pub use Rattle.metadata.specs.SourceAt.{cell_offset}
unfoldable pub use Rattle.metadata.specs.Starts.{start_of}
unfoldable pub use Rattle.opening.specs.Views.{row_count, user_of}
unfoldable pub use Rattle.cli_lines.specs.Lines.{line_from}
pub use Rattle.cli_cells.specs.Before.{lines_before}
pub use Rattle.cli_cells.specs.MetRows.{rows_before}
pub use Rattle.cli_cells.specs.RowLines.{cell_part, cell_parts, row_line}
unfoldable pub use Rattle.cli_cells.specs.RowLines.{first_lines, heading_line}
pub use Rattle.cli_cells.specs.Shown.{blob_at, coded_at, guid_at, read_cell, row_at, signature_at, signature_of, text_at, text_of, Content, content_at, content_of}
unfoldable pub use Rattle.cli_cells.specs.Shown.{cell_at}
pub use Rattle.cli_cells.specs.SignatureText.{piece_bytes, signature_text}
pub use Rattle.cli_cells.specs.TokenLines.{AreTokenLines, IsTokenLine, IsNamed, ArePrinted}
unfoldable pub use Rattle.cli_cells.specs.TokenLines.{user_line}
pub use Rattle.cli_cells.specs.declared.row_lines.Names.TheVariants.{Hidden, Shown}
