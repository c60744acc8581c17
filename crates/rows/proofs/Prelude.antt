-- What several proofs of this crate name of std, of the crates below, and of its own definitions.
pub use Rattle.std.proofs.Common.{◌≡◌, ℕ, zero, suc, ◌*◌, ◌/◌, ◌^◌, ◌<◌, List, ◌++◌, take, drop, length, refl, sym, ◌∙◌, ap, append_assoc, arith, ◌+◌, ◌-◌, ◌≤◌, eqb, add-one, Bool, true, false, cond, [], ◌∷◌, map, get_or, length-append, length-drop, max, inl, inr, append-nil, vec_len, vec_capacity, rules, subst, ap₂}
pub use Rattle.std.proofs.Math.Nat.{pow-succ', add-mul}
pub use Rattle.std.proofs.lemmas.Bool.{cond_both, eqb-true, eqb-false, cases_lt}
pub use Rattle.std.proofs.lemmas.List.{drop_at, take_at, take_all, take-take, length-take-le, drop-drop, drop-take, get_or-drop, drop_all, drop_more}
pub use Rattle.std.proofs.lemmas.List.Sums.{sum_by-cons, sum_by_more_le, sum_by-drop_more}
pub use Rattle.std.proofs.lemmas.Nat.{mul-le}
pub use Rattle.packed.specs.Number.{little_endian}
pub use Rattle.packed.specs.Offsets.{part}
pub use Rattle.table_schema.specs.Columns.{columns_of, col}
pub use Rattle.table_schema.specs.Tables.{table_index_of}
unfoldable pub use Rattle.table_schema.specs.Tables.{tables}
pub use Rattle.table_schema.specs.declared.column.Column.{Column}
pub use Rattle.table_schema.specs.declared.table.TableId.{TableId}
pub use Rattle.table_schema.specs.declared.table.TableId.TheVariants.{Module}
pub use Rattle.schema.specs.Cells.{cell_width, number_at}
pub use Rattle.schema.specs.LaidOut.{number_bytes, row_bytes, rows_bytes, tables_bytes, FitRow, FitRows, FitTables, IsLaidOut, StandsAt, number_in}
pub use Rattle.schema.specs.Offsets.{row_width, table_size, cell_start, offset_in_row, row_start, table_start, tables_end}
unfoldable pub use Rattle.schema.specs.Offsets.{columns_width, tables_size}
pub use Rattle.schema.specs.Sizes.{Sizes, count_of, width_of}
pub use Rattle.rows.specs.Cells.{bytes_before, number_in_rows, IsWhole, Stream}
pub use Rattle.rows.specs.Columns.{number_in_row, ColumnBytes, IsAmong}
pub use Rattle.rows.specs.Keys.{key_at, digits_after}
unfoldable pub use Rattle.rows.specs.Keys.{binary_digits}
