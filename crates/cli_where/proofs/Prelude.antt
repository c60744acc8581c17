-- What several proofs of this crate name of std, of the crates below, and of its own definitions and lemmas.
pub use Rattle.std.proofs.Common.{Option, None, Some, ◌⊎◌, ◌≡◌, ◌≢◌, ◌∙◌, ◌↔◌, ℕ, ◌+◌, ◌-◌, ◌^◌, ◌<◌, ◌≤◌, true, List, ◌∷◌, ◌++◌, length, take, drop, slice_index, inl, inr, refl, sym, ap, subst, arith, length-drop, zero, suc, [], append_assoc, append-nil, ◌%◌, replicate, rules, get_or, map, eqb-true, vec_len}
pub use Rattle.std.proofs.lemmas.List.{take-append-drop, get_or-drop, drop_more, length-take-le, flat_map_more, take_all, take_more, drop_all, nil_from_length}
pub use Rattle.std.specs.List.{flat_map, range_with_len}
pub use Rattle.cli_where.specs.Words.{IsCounted, IsEnded, IsUserString, UserText, zero_padded, Prints, Printed, Completes, Adds, Finds, Joins, Searched, seen, name_text, has_byte, Region, entry}
pub use Rattle.table_schema.specs.declared.table.TableId.TheVariants.{Module}
pub use Rattle.cli_regions.proofs.SearchLemmas.{joins_none, joins_more, adds_none, and_then, numbered_more}
pub use Rattle.cli_regions.specs.declared.searches.Structure.{Structure}
pub use Rattle.cli_where.specs.Entries.{Heap, AreEntriesAt, AreFirst, IsEntryOf, table_cells, heap_named, cell_of, row_cells}
unfoldable pub use Rattle.cli_where.specs.Entries.{all_cells}
pub use Rattle.cli_where.specs.Kept.{IsRun, IsRunAt, IsRunOf, FindsFirst, NameFirst, heaps_of, heap_of}
pub use Rattle.cli_where.specs.Lines.{structure_line, entry_lines}
unfoldable pub use Rattle.cli_where.specs.Lines.{line_with}
pub use Rattle.cli_where.specs.UserStrings.{AreEntries, IsEntry, Entry, user_region, AreUsersAt}
pub use Rattle.cli_where.specs.Where.{AreInStream, AreCellsAt}
pub use Rattle.cli_where.proofs.FindLemmas.{adds_find, broken_layer, finds_joined, finds_none, finds_then, first_of, whole_layer}
pub use Rattle.std.proofs.lemmas.List.FromFn.{map-range_with_len_more}
