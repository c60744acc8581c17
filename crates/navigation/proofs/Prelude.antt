-- What several proofs of this crate name of std, of the crates below, and of its own definitions.
pub use Rattle.std.proofs.Common.{◌≡◌, ℕ, zero, suc, ◌<◌, ◌≤◌, Bool, false, List, [], ◌∷◌, Option, Some, None, refl, sym, ap, subst, arith, Bor, ◌∙◌, ◌+◌, ◌==◌, ◌&&◌, true, cond, ◌++◌, length, get_or, map, append-nil, tests, inl, inr, ◌-◌, slice_index, ⊎_elim, rules, ltb, leb, ltb-true, ltb-false, leb-true, leb-false, All, filter, ◌↔◌, IfNone, MatchOption}
pub use Rattle.std.proofs.Math.Logic.{∥∥₁_elim, ∥∥₁_map}
pub use Rattle.std.proofs.lemmas.Bool.{eq-eqb, ne_eqb, cases_lt, cases_eq}
pub use Rattle.std.proofs.lemmas.Grind.{not_there}
pub use Rattle.std.proofs.lemmas.List.{get_or-map, length-map, get_or_append_left, get_or_push, length_push}
pub use Rattle.std.proofs.lemmas.List.Elements.{All-cons, All-nil, All-weaker, filter-append, filter_agree, All-same}
pub use Rattle.std.proofs.lemmas.List.Sorted.{IsNonDecreasingBy-from_sort_by_key, answers_always, IsNonDecreasingBy-drop, IsPartitionPoint-from_clause, IsPartitionedBy-leb, IsPartitionedBy-ltb}
pub use Rattle.std.specs.Coded.{le_prop}
pub use Rattle.std.specs.List.Sorted.{IsNonDecreasingBy, ties, IsStrictlyIncreasing}
pub use Rattle.table_schema.specs.CellColumns.{cell_count, column_of}
unfoldable pub use Rattle.table_schema.specs.CellColumns.{cell_columns}
pub use Rattle.table_schema.specs.declared.column.ColumnKind.{ColumnKind}
pub use Rattle.table_schema.specs.declared.table.TableId.{TableId}
pub use Rattle.table_schema.specs.declared.table.TableId.TheVariants.{TypeDef, EventMap, PropertyMap, NestedClass, TypeRef}
pub use Rattle.table_schema.specs.declared.token.Token.{Token}
pub use Rattle.metadata.specs.Cell.{Cell, Number, Text, Ref, Sig, Start, start_in}
pub use Rattle.metadata.specs.Kinds.{IsOfKind}
pub use Rattle.metadata.specs.Lookups.{HasRow, IsKeyCell, HasKey}
pub use Rattle.metadata.specs.Metadata.{Metadata, cell_in, count_in}
pub use Rattle.metadata.specs.Source.{Source, rows_in}
unfoldable pub use Rattle.metadata.specs.Source.{number_of}
pub use Rattle.metadata.specs.SourceAt.{source_of}
pub use Rattle.metadata.specs.Valid.{IsValid, MayRefer, kind_at, nullable_at, links_of, row_in}
pub use Rattle.metadata.specs.Links.{IsOwned}
pub use Rattle.reading.specs.KeyRows.{rows_that}
pub use Rattle.reading.specs.Shown.{Shows}
pub use Rattle.metadata.specs.MemberLists.{owner_of, member_of}
unfoldable pub use Rattle.opening.specs.Views.{row_count}
pub use Rattle.navigation.specs.Keyed.{AreByKey, has_key, key_of, keyed_row, keyed_rows, row_of}
pub use Rattle.navigation.specs.Linked.{number_in, table_of, cell_of, link_in, linked, number_to}
pub use Rattle.navigation.specs.Maps.{IsMapOf}
pub use Rattle.navigation.specs.Starts.{AreNestedKeys, AreStarts}
pub use Rattle.navigation.specs.declared.keyed.KeyedRow.{KeyedRow}
pub use Rattle.std.specs.Prelude.{⊤, Contains, IfSome, not}
