-- What several proofs of this crate name of std, of the crates below, and of its own definitions.
pub use Rattle.std.proofs.Common.{◌≡◌, ℕ, ◌<◌, List, Option, Some, None, length, slice_index_or, unwrap_or, option_map, Bool, inl, inr, refl, ap, sym, ◌∙◌, false, ◌+◌, ◌≤◌, subst, arith, ◌-◌, [], ◌≢◌, ◌∷◌, ◌++◌, map, ◌↔◌, true, IsTrue, slice_index, is_some, not, Result, Ok, Err, IsOk, length-set, rules}
pub use Rattle.std.proofs.lemmas.Bool.{cases_eq}
pub use Rattle.std.proofs.lemmas.Bool.Decides.{Decides-like, Decides-and, Decides-eqb}
pub use Rattle.std.proofs.lemmas.Grind.{get_or-set_at}
pub use Rattle.std.proofs.lemmas.List.{get_or-set_other, get_or_read}
pub use Rattle.std.specs.Bool.{Decides}
pub use Rattle.std.specs.Cmp.Lexicographic.{pointwise_decides, pointwise}
pub use Rattle.packed.proofs.RuleLemmas.{none_fails, before_more}
pub use Rattle.packed.specs.Rule.{FirstBroken, HoldBefore, AllHold, Reports}
pub use Rattle.table_schema.specs.Columns.{key_of}
pub use Rattle.table_schema.specs.Tables.{table_number, table_index_of}
pub use Rattle.table_schema.specs.declared.column.ColumnKind.{ColumnKind}
pub use Rattle.table_schema.specs.declared.table.TableId.{TableId}
pub use Rattle.table_schema.specs.declared.table.TableId.TheVariants.{Module}
pub use Rattle.table_schema.specs.declared.token.Token.{Token}
pub use Rattle.metadata.specs.KeyOrder.{key_number, key_in, IsKeyOrdered}
pub use Rattle.metadata.specs.Metadata.{Metadata, cell_in, count_in, rows_of}
pub use Rattle.metadata.specs.Refusals.{in_memory}
unfoldable pub use Rattle.metadata.specs.Refusals.{refusals_of_cell, refusals_of_count, refusals_of, refusals_of_row, refusals_by_row_at, refusals_of_signature, refusals_of_signatures_in}
unfoldable pub use Rattle.metadata.specs.LinkRules.{rules_of_run, rules_of_start, rules_of_nesting_in}
pub use Rattle.metadata.specs.Valid.{MayRefer, kind_at, nullable_at, Names, IsValid}
pub use Rattle.metadata.specs.declared.refusal.Refusal.{Refusal}
pub use Rattle.tables.specs.Said.{said, all_said}
