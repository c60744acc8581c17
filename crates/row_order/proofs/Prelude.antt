-- What several proofs of this crate name of std, of the crates below, and of its own definitions.
pub use Rattle.std.proofs.Common.{◌≡◌, ℕ, suc, ◌+◌, ◌-◌, ◌<◌, ◌≤◌, ◌↔◌, Bool, true, false, IsTrue, List, [], ◌∷◌, ◌++◌, length, Option, Some, None, slice_index_or, cond, refl, sym, ◌∙◌, ap, subst, inl, arith, length-set}
pub use Rattle.std.proofs.lemmas.Bool.{cases_eq}
pub use Rattle.std.proofs.lemmas.Bool.Decides.{nat_tests}
pub use Rattle.packed.proofs.RuleLemmas.{all_append, fails_prefix, fails_back, none_from}
pub use Rattle.packed.specs.Rule.{Rule, AllHold, HoldBefore, rule, fault}
unfoldable pub use Rattle.packed.specs.Rule.{rules_from}
pub use Rattle.packed.specs.declared.code.FaultCode.{FaultCode}
pub use Rattle.packed.specs.declared.code.FaultCode.TheVariants.{BadRun}
pub use Rattle.table_schema.specs.Columns.{key_of}
pub use Rattle.table_schema.specs.Tables.{table_number, table_index_of}
pub use Rattle.table_schema.specs.declared.table.TableId.{TableId}
pub use Rattle.table_schema.specs.declared.table.TableId.TheVariants.{Module}
pub use Rattle.metadata.specs.RowRules.{IsInOrder}
pub use Rattle.metadata.specs.declared.member_lists.MemberList.{MemberList}
pub use Rattle.metadata.specs.MemberLists.{owner_of, cell_of, member_of}
unfoldable pub use Rattle.metadata.specs.LinkRules.{rules_of_start, rules_of_nesting_in}
pub use Rattle.metadata.specs.Rules.{in_place, rules_of_order_by}
unfoldable pub use Rattle.metadata.specs.Rules.{rules_of_key_in, rules_of_order_at}
pub use Rattle.metadata.specs.Source.{Source, rows_in}
unfoldable pub use Rattle.metadata.specs.Source.{number_of}
pub use Rattle.metadata.specs.SourceAt.{SourceAt}
unfoldable pub use Rattle.metadata.specs.SourceAt.{cell_offset}
unfoldable pub use Rattle.metadata.specs.Starts.{start_of}
pub use Rattle.row_order.specs.Runs.{IsVerdict, fault_in_row}
