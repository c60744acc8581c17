-- What several proofs of this crate name of std, of the crates below, and of its own definitions.
pub use Rattle.std.proofs.Common.{◌≡◌, ℕ, ◌<◌, ◌≤◌, sym, ◌∙◌, ap, ◌≢◌, zero, suc, ◌+◌, ◌-◌, eqb, false, refl, inl, inr, arith, Some, ◌*◌, ◌/◌, subst, ◌∷◌, rules, length, None}
pub use Rattle.std.proofs.lemmas.Bool.{eq-eqb, cases_eq, cases_lt, eqb-true}
pub use Rattle.std.proofs.lemmas.Bool.Decides.{nat_tests, Decides-eqb}
pub use Rattle.std.proofs.lemmas.Nat.{mul-le, div-add-mod', mod_below}
pub use Rattle.std.proofs.lemmas.Option.{same_Some}
pub use Rattle.heap_entries.specs.Entries.{IsText, IsBlob, HasNoNul}
pub use Rattle.table_schema.specs.CellColumns.{column_of}
pub use Rattle.table_schema.specs.CodedIndexes.{IsCoded}
pub use Rattle.table_schema.specs.Columns.{column_at}
pub use Rattle.table_schema.specs.declared.coded.Coded.{Coded}
pub use Rattle.table_schema.specs.declared.column.ColumnKind.{ColumnKind}
pub use Rattle.table_schema.specs.declared.column.SigKind.{SigKind}
pub use Rattle.table_schema.specs.declared.table.TableId.{TableId}
pub use Rattle.table_schema.specs.declared.token.Token.{Token}
pub use Rattle.rows.specs.Keys.{key_at}
pub use Rattle.metadata.specs.Cell.{Cell, Text, Bytes, Start, Sig, Ref}
pub use Rattle.metadata.specs.declared.member_lists.MemberList.{MemberList}
pub use Rattle.metadata.specs.MemberLists.{owner_of, cell_of, member_of}
pub use Rattle.metadata.specs.Metadata.{Metadata, cell_in}
pub use Rattle.metadata.specs.Source.{Source, rows_in}
unfoldable pub use Rattle.metadata.specs.Source.{number_of}
pub use Rattle.metadata.specs.Stands.{StandsFor, Refers, HasRows}
pub use Rattle.metadata.specs.Starts.{start_from}
unfoldable pub use Rattle.metadata.specs.Starts.{start_of}
pub use Rattle.reading.specs.KeyRows.{rows_that, rows_with, RowsLeft}
pub use Rattle.reading.specs.KnownStarts.{IsKnown}
pub use Rattle.reading.specs.Starts.{down_from}
