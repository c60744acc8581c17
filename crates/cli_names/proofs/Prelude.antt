-- What several proofs of this crate name of std, of the crates below, and of its own definitions.
pub use Rattle.std.proofs.Common.{◌≡◌, ◌∙◌, ◌<◌, ℕ, Bool, true, false, cond, List, [], ◌∷◌, Some, None, length, take, ap, refl, arith, ◌≢◌, ◌==◌, ◌^◌, ◌≤◌, ◌++◌, codes, drop, Result, Ok, Err, Option, eqb-true, inl, inr, subst, sym, ⊎_elim, All, lit<, ◌↔◌, IsTrue, suc, IfNone, IfSome, map, ◌+◌, ◌-◌, zero, Decides, slice_index, MatchOption, unwrap_or, slice_index_or, Bor}
pub use Rattle.std.proofs.lemmas.Bool.{cases_lt, le-leb, lt-leb}
pub use Rattle.std.proofs.lemmas.Bool.Decides.{Decides-and, Decides-at, Decides-eqb, Decides-like}
pub use Rattle.std.proofs.lemmas.List.{take-append-drop, get_or_default, get_or-map}
pub use Rattle.std.proofs.lemmas.Slice.Eq.{bytes_eq-Decides}
pub use Rattle.std.specs.Char.{digit_value}
pub use Rattle.std.specs.Str.{bytes_eq, NoCharPasses}
pub use Rattle.cli_names.specs.Names.{IsFullName}
pub use Rattle.table_schema.specs.declared.table.TableId.{TableId}
pub use Rattle.table_schema.specs.declared.table.TableId.TheVariants.{NestedClass, TypeDef, TypeRef}
pub use Rattle.table_schema.specs.declared.token.Token.{Token}
pub use Rattle.metadata.specs.Cell.{Ref, Text, start_in}
pub use Rattle.metadata.specs.Lookups.{HasRow, IsRun}
pub use Rattle.metadata.specs.MemberLists.{cell_of, member_of, owner_of}
pub use Rattle.metadata.specs.Metadata.{Metadata, cell_in, count_in}
pub use Rattle.metadata.specs.Model.{IsModel}
pub use Rattle.metadata.specs.declared.member_lists.MemberList.{MemberList}
pub use Rattle.navigation.specs.Nesting.{IsEnclosed, IsNesting}
unfoldable pub use Rattle.opening.specs.Views.{row_count}
pub use Rattle.full_names.specs.Names.{IsOuter}
pub use Rattle.cli_names.specs.Chosen.{IsChosen, IsDescribing}
pub use Rattle.cli_names.specs.Orders.{run_start}
pub use Rattle.cli_names.specs.Paths.{HasAllParts, HasName, HasOwnName, HasParts, HasPath, IsAround, IsBare, IsMeant, IsOnly, IsOutside}
pub use Rattle.cli_names.specs.Refs.{BelongsTo, IsWantedRef, generic_at, generic_of, type_of_ref, generic_in}
pub use Rattle.cli_names.specs.declared.refs.Wanted.{Wanted}
pub use Rattle.std.specs.Option.{option_eq, SomeIff}
pub use Rattle.metadata.specs.Valid.{row_in, IsValid, IsWithinMembers, links_of}
