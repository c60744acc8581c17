-- What several proofs of this crate name of std, of the crates below, and of the definitions that many proofs cite.
pub use Rattle.std.proofs.Common.{◌≡◌, ℕ, ◌+◌, ◌<◌, ◌≤◌, Bool, true, false, List, length, get_or, drop, refl, sym, ap, ◌∙◌, arith, zero, suc, ◌-◌, ◌%◌, inl, inr, cond, ltb, [], ◌∷◌, ◌++◌, filter, replicate, subst, length-append, map, ◌^◌, ◌*◌, take, length-drop, Result, Ok, Err, IfErr, IfOk, ⊎_elim, length-set}
pub use Rattle.std.proofs.Math.Logic.{∥∥₁_map, ∥∥₁_elim}
pub use Rattle.std.proofs.Math.Path.{fun_ext}
pub use Rattle.std.proofs.lemmas.Bool.{cases_Bool, ltb-false}
pub use Rattle.std.proofs.lemmas.List.{drop_all, get_or-map, length-take-le}
pub use Rattle.std.proofs.lemmas.List.Sums.{sum_by-drop_more, sum_by-cons}
pub use Rattle.std.specs.Coded.{le_prop}
pub use Rattle.std.specs.Prelude.{◌↔◌, Option, Some, None, sum_by, flat_map, count_by, ⊤, IsErrAnd, IsSome}
pub use Rattle.heap_entries.specs.Padding.{zero_padded}
pub use Rattle.heap_pools.specs.TextHeap.{text_heap}
pub use Rattle.metadata.specs.Metadata.{Metadata, count_in}
pub use Rattle.root.specs.declared.kind.Kind.{Kind}
pub use Rattle.root.specs.declared.kind.Kind.TheVariants.{Tables, Strings, UserStrings, Guids, Blobs}
pub use Rattle.root_writer.specs.Canonical.{canonical, stream}
pub use Rattle.root_writer.specs.Heading.{held, heading, kinds_in_order, size_of, heading_size}
pub use Rattle.root_writer.specs.Numbered.{Numbered, IsTooLong, flat}
pub use Rattle.root_writer.specs.Numbers.{numbers}
pub use Rattle.root_writer.specs.TableHeader.{bit_if, table_header}
unfoldable pub use Rattle.root_writer.specs.TableStream.{sizes_of, header_bytes, table_stream}
pub use Rattle.root_writer.specs.TableStream.{is_by_key, table_keys, is_sorted, has_rows}
pub use Rattle.root_writer.specs.declared.sizes.StreamSizes.{StreamSizes}
unfoldable pub use Rattle.schema.specs.LaidOut.{bits_of}
pub use Rattle.schema.specs.LaidOut.{tables_bytes, number_bytes, row_bytes, rows_bytes, counts_bytes}
pub use Rattle.schema.specs.Sizes.{sizes_by_number, header_size, Sizes, count_of, width_of}
pub use Rattle.table_schema.specs.Columns.{key_of, columns_of}
pub use Rattle.table_schema.specs.Tables.{tables, table_number, table_index_of}
pub use Rattle.table_schema.specs.declared.table.TableId.{TableId}
pub use Rattle.table_schema.specs.declared.table.TableId.TheVariants.{Module}
pub use Rattle.writer.specs.Planned.{ArePooled, AreHeapLens, IsTablesPlan, IsRootPlan, plan_error, planned_tables}
