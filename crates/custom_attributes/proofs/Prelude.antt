-- What several proofs of this crate name of std, of the crates below, and of its own definitions.
pub use Rattle.std.proofs.Common.{◌≡◌, ◌∙◌, ◌≤◌, ◌*◌, ◌^◌, ℕ, Bool, true, false, inl, inr, Option, None, Some, List, [], ◌∷◌, ◌++◌, cond, length, nat_lt, ap, arith, ◌<◌, ◌+◌, ◌-◌, zero, suc, refl, ◌&&◌, append_assoc, append-nil, ⊎_elim, sym, ◌↔◌, Bor, IsTrue, min, subst}
pub use Rattle.std.proofs.lemmas.Bool.{le-leb, lt-leb, cases_Bool, cases_lt, le-ltb, lt-ltb, eqb-true, eqb-false}
pub use Rattle.std.proofs.lemmas.List.{length-append}
pub use Rattle.std.specs.Prelude.{flat_map, option_and_then, option_map}
pub use Rattle.table_schema.specs.declared.column.ColumnKind.{ColumnKind}
pub use Rattle.table_schema.specs.declared.table.TableId.{TableId}
pub use Rattle.table_schema.specs.declared.table.TableId.TheVariants.{MemberRef, MethodDef, TypeDef, Field, TypeRef}
pub use Rattle.sig_items.specs.ItemsOf.{items_of}
pub use Rattle.sig_items.specs.declared.item.Item.{Item}
pub use Rattle.metadata.specs.Cell.{Cell, Ref, Text, reference_in, start_in}
pub use Rattle.metadata.specs.Metadata.{Metadata, cell_in, count_in}
pub use Rattle.metadata.specs.Valid.{IsValid, kind_at}
pub use Rattle.reading.specs.Shown.{Shows, ShowsSignature}
pub use Rattle.custom_attributes.specs.Constructors.{type_of}
unfoldable pub use Rattle.custom_attributes.specs.Constructors.{owner_among}
pub use Rattle.custom_attributes.specs.Params.{argument_type, begins_vector, element_type, if_few, is_vector, params_in, params_of_constructor, preceded}
unfoldable pub use Rattle.custom_attributes.specs.Params.{params_from}
pub use Rattle.custom_attributes.specs.Signatures.{is_method, is_void, items_in}
pub use Rattle.custom_attributes.specs.Types.{enum_at, field_type, fields_end, has_row, is_enum, is_named_type, is_static, is_text, underlying_type}
unfoldable pub use Rattle.custom_attributes.specs.Types.{instance_type}
