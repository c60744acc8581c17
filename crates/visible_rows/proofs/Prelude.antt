-- What several proofs of this crate name of std, of the crates below, and of its own definitions.
pub use Rattle.std.proofs.Common.{◌≡◌, ◌≢◌, ◌∙◌, ◌==◌, ◌≤◌, ◌<◌, ◌+◌, ◌-◌, ℕ, List, ◌∷◌, Bool, true, false, cond, ap, get_or, length, length-set, set, sym, arith, ⊎_elim, zero, suc, ◌&&◌, ◌||◌, [], ◌++◌, ap₂, map, refl, take, add-one, replicate, rules, subst, Option, None, Some}
pub use Rattle.std.proofs.lemmas.Bool.{cases_eq, eq-eqb, le-leb, lt-leb, eqb-true}
pub use Rattle.std.proofs.lemmas.List.{get_or-set_other, get_or-set_same, get_or_read, take_all, length_push, get_or-replicate, length-replicate}
pub use Rattle.std.proofs.lemmas.List.FromFn.{get_or-map-range_with_len, map-range_with_len_more}
pub use Rattle.std.specs.List.{list_any, range_with_len}
pub use Rattle.table_schema.specs.declared.table.TableId.{TableId}
pub use Rattle.table_schema.specs.declared.table.TableId.TheVariants.{NestedClass, TypeDef, Field, MethodDef, Event, Property, Param, InterfaceImpl, GenericParam, GenericParamConstraint, MethodImpl, ImplMap, DeclSecurity, CustomAttribute}
pub use Rattle.metadata.specs.Cell.{start_in, Cell, Ref, reference_in}
pub use Rattle.metadata.specs.Metadata.{Metadata, cell_in, count_in}
pub use Rattle.metadata.specs.Model.{IsModel}
pub use Rattle.metadata.specs.Valid.{row_in, links_of, IsValid}
pub use Rattle.metadata.specs.Links.{IsOwned}
unfoldable pub use Rattle.opening.specs.Views.{row_count}
pub use Rattle.visible_rows.specs.Visible.{outer_among, owner_in, AreVisibleTypes, HaveVisibleAccessors, has_visible_accessor, is_open_member, is_visible_type, access_in, is_open_nested, is_public_type, outer_of, is_visible_accessor, is_visible_method, is_visible_row}
unfoldable pub use Rattle.visible_rows.specs.Visible.{owner_among, is_visible_within}
pub use Rattle.table_schema.specs.declared.token.Token.{Token}
pub use Rattle.full_names.specs.RowNames.{IsMemberOf}
pub use Rattle.visible_rows.specs.Declaring.{IsPartOf, subject_of, described, or_itself}
