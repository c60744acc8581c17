-- What several proofs of this crate name of std, of the crates below, and of its own definitions.
pub use Rattle.std.proofs.Common.{◌≡◌, ℕ, ◌-◌, ◌%◌, ◌<◌, List, ◌++◌, length, replicate, slice_index_or, ap, refl, sym, ◌∙◌, zero, suc, ◌+◌, [], ◌∷◌, get_or, set, take, drop, add-one, arith, ◌≤◌, Bool, true, false, Option, Some, None, option_map, slice_get, slice_set, subst, Result, Ok, Err, IfErr, ◌⊎◌, ◌*◌, ◌^◌, ℤ, neg_ℤ, IfSome, Contains, IsUtf8, inl, inr, ◌↔◌, IsSome}
pub use Rattle.std.proofs.Math.Logic.{∥∥₁_map}
pub use Rattle.std.proofs.lemmas.Bool.{cases_eq, cases_lt, cases_Bool, both_ways}
pub use Rattle.std.proofs.lemmas.Grind.{not_there}
pub use Rattle.std.proofs.lemmas.List.{append-nil, map-append, take_more, get_or-set_same, set-set, drop_more, take_all, length-set, length-map}
pub use Rattle.heap_entries.specs.Padding.{zero_padded}
pub use Rattle.table_schema.specs.Columns.{column_at, key_of}
pub use Rattle.table_schema.specs.Tables.{table_index_of, table_number}
unfoldable pub use Rattle.table_schema.specs.Tables.{tables}
pub use Rattle.table_schema.specs.declared.column.ColumnKind.{ColumnKind}
pub use Rattle.table_schema.specs.declared.column.SigKind.{SigKind}
pub use Rattle.table_schema.specs.declared.table.TableId.{TableId}
pub use Rattle.table_schema.specs.declared.table.TableId.TheVariants.{Module}
pub use Rattle.sig_grammar.specs.Encodes.{Encodes, Holds, IsEncodable, short, tokens}
pub use Rattle.sig_grammar.specs.Syntax.{Body, locals}
pub use Rattle.metadata.specs.Kinds.{IsOfKind, IsTo, IsStorable, IsHeld}
pub use Rattle.metadata.specs.Metadata.{Metadata, rows_of, row_of, count_in, cell_in}
pub use Rattle.metadata.specs.Model.{IsModel, IsModelOfFile}
unfoldable pub use Rattle.metadata.specs.Rules.{rules_of_file, rules_of_metadata}
pub use Rattle.metadata.specs.Valid.{Names, MayRefer, IsWithinMembers, NamesTypes, IsValidCell, links_of, IsValid, kind_at}
pub use Rattle.reading.specs.Shown.{Shows, ShowsSignature}
pub use Rattle.reading.specs.declared.cell_ref.CellRef.{CellRef}
pub use Rattle.opening.specs.Views.{HasModel, AreFound}
unfoldable pub use Rattle.opening.specs.Views.{row_count}
pub use Rattle.tables.specs.Push.{with_row}
pub use Rattle.tables.specs.Said.{said, all_said}
pub use Rattle.type_records.specs.Kinds.{kinds_of, AreOfKinds}
pub use Rattle.owned_model.specs.Padded.{with_rows}
pub use Rattle.owned_model.specs.RefRows.{IsShown, IsRefOfShape, IsSaid, HoldsAt, SaysAt}
unfoldable pub use Rattle.owned_model.specs.RefRows.{shape_at}
pub use Rattle.owned_model.specs.Refused.{IsRefused, HasHeaderAndModel}
