-- What several proofs of this crate name of std, of the crates below, and of its own definitions.
pub use Rattle.std.proofs.Common.{◌≡◌, ◌∙◌, ℕ, zero, suc, ◌+◌, ◌-◌, ◌*◌, ◌<◌, ◌≤◌, List, take, length, get_or, ap, sym, subst, arith, mul-le-mul, inl, inr, ◌/◌, ◌%◌, ◌^◌, Bool, true, false, cond, [], ◌∷◌, refl, lit<, eqb, ◌++◌, drop, append_assoc, length-append, add-zero, add_assoc, zero-mul, ltb, ◌&&◌, Option, Some, None, mul_assoc, map, length-drop, Result, Ok, Err, length-set, ◌≢◌, lt-ltb, le-ltb, below_more, eqb-true, eq-eqb, rules}
pub use Rattle.std.proofs.Math.Nat.{pow-le-pow_right, mod-lt, one-le-pow, pow-suc, div-lt_iff_lt-mul, lt-div-mul-add, div-mul-le_self}
pub use Rattle.std.proofs.lemmas.Bool.{cases_lt, cases_Bool}
pub use Rattle.std.proofs.lemmas.List.{drop-drop, drop_at, take-append-drop, same_lists, get_or-map, length-map, get_or_default, take_at, length-take-le, get_or-drop, drop_more, take_all}
pub use Rattle.std.proofs.lemmas.List.Sums.{sum_by_more, sum_by-cons, sum_by_more_le, count_by-le-length}
pub use Rattle.std.proofs.lemmas.Nat.{pow_pos, pow-add, shr-shr, div-mul-add, one_shl, div-add-mod', mod-mul-add, mod_below, div_below}
pub use Rattle.std.proofs.lemmas.Result.{err_from_is_err_and}
pub use Rattle.std.specs.List.{sum_by, list_all, count_by}
pub use Rattle.packed.proofs.RuleLemmas.{each_holds, all_append, all_prefix, all_back, all_of_each, none_fails, before_none, before_more, before_all, before_fails, fails_prefix, fails_back}
pub use Rattle.packed.specs.Number.{little_endian}
pub use Rattle.packed.specs.Offsets.{part}
pub use Rattle.packed.specs.Rule.{AllHold, Reports, fault, FirstBroken, HoldBefore}
unfoldable pub use Rattle.packed.specs.Rule.{rules_from}
pub use Rattle.packed.specs.declared.code.FaultCode.TheVariants.{RowCount, TablesShort}
pub use Rattle.table_schema.proofs.TableFacts.{table_at_index, table_index_below, number_below, length-tables, table_index_at, columns_few}
pub use Rattle.table_schema.proofs.TableOrder.{IsAscending, ascending, above, numbers_rise}
pub use Rattle.table_schema.specs.Columns.{columns_of, col}
pub use Rattle.table_schema.specs.Tables.{table_index_of, table_number}
unfoldable pub use Rattle.table_schema.specs.Tables.{tables}
pub use Rattle.table_schema.specs.declared.column.Column.{Column}
pub use Rattle.table_schema.specs.declared.column.ColumnKind.{ColumnKind}
pub use Rattle.table_schema.specs.declared.column.ColumnKind.TheVariants.{U8}
pub use Rattle.table_schema.specs.declared.table.TableId.{TableId}
pub use Rattle.table_schema.specs.declared.table.TableId.TheVariants.{Module, GenericParamConstraint}
pub use Rattle.schema.specs.Cells.{HoldsCell, number_at, row_at, rows_at}
unfoldable pub use Rattle.schema.specs.Cells.{numbers_at}
pub use Rattle.schema.specs.Header.{has_bit, valid_of, count_offset, count_in, sizes_of, heap_sizes_of, sorted_of}
pub use Rattle.schema.specs.Kept.{AreFew, IsTableLayout, AreTableLayouts, sizes_kept, AreFirstTableLayouts}
pub use Rattle.schema.specs.LaidOut.{number_bytes, row_bytes, FitRow, rows_bytes, FitRows, tables_bytes, FitTables, fields_of, IsLaidOut, StandsAt, number_in, counts_bytes, IsTableStream}
unfoldable pub use Rattle.schema.specs.LaidOut.{bits_of}
pub use Rattle.schema.specs.LocatedCells.{HasRow, HasCell}
pub use Rattle.schema.specs.Offsets.{row_width, table_size, table_start, cell_start, tables_end, row_start}
unfoldable pub use Rattle.schema.specs.Offsets.{columns_width, tables_size}
pub use Rattle.schema.specs.Rules.{NamesTables, rules_of_count_at, rules_of_header, rules_of_tables, rules_of_stream, rules_of_count}
pub use Rattle.schema.specs.Sizes.{Sizes, count_of, width_of, SameCounts, narrow_or_wide, heap_width, row_index_width, is_below, kind_width, header_size, IsWidth, sizes_by_number}
pub use Rattle.schema.specs.declared.table_layout.TableLayout.{TableLayout}
