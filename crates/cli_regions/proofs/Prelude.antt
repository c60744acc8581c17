-- What several proofs of this crate name of std, of the crates below, and of its own definitions and lemmas.
pub use Rattle.std.proofs.Common.{◌≡◌, None, Some, eqb, ℕ, ◌+◌, ◌*◌, ◌/◌, ◌≤◌, List, [], ◌∷◌, ◌++◌, length, ap, arith, length-append, ◌-◌, sym, ◌∙◌, Option, refl, min, take, append-nil, map, drop, codes, get_or}
pub use Rattle.std.proofs.lemmas.Bool.{cond-false, false_from_ne_true, leb-true, le-leb}
pub use Rattle.std.proofs.lemmas.List.{take_min, drop_all, drop_more, take-map, length-drop, length-take, take_all}
pub use Rattle.std.proofs.lemmas.List.Elements.{All-cons, All-nil, All-rest, All-same}
pub use Rattle.std.specs.List.{All, range_with_len, position, position_or_len, flat_map}
pub use Rattle.std.specs.Prelude.{nat_le}
pub use Rattle.packed.specs.Number.{little_endian}
pub use Rattle.packed.specs.Offsets.{part}
pub use Rattle.root.specs.Fields.{before_nul, root_read}
pub use Rattle.root.specs.Streams.{Header}
pub use Rattle.root.specs.Views.{view}
pub use Rattle.pe.specs.Headers.{directory_count, lfanew, sections_offset, wider, optional_header_size, section_at, section_count}
pub use Rattle.cli_regions.specs.Headers.{counts_from, table_words}
unfoldable pub use Rattle.cli_regions.specs.Headers.{other_stream_regions, stream_header_regions, stream_regions, root_header_regions, table_stream_regions}
pub use Rattle.cli_regions.specs.Kept.{Adds, part_regions, stream_part_regions}
pub use Rattle.cli_regions.specs.Files.{directories_offset, whole_directories, optional_fields, numbered, section_bytes, section_offset, named_at}
unfoldable pub use Rattle.cli_regions.specs.Files.{dos_header_regions, file_header_regions, image_regions, directories_regions, optional_header_regions, section_header_regions, section_regions, named_regions, cli_regions}
pub use Rattle.cli_regions.specs.Regions.{region, field_region, fields_from, seen_field, header_regions}
unfoldable pub use Rattle.cli_regions.specs.Regions.{regions_at}
pub use Rattle.cli_regions.specs.declared.fields.TheConstants.{DIRECTORIES, DIRECTORY_FIELDS, SECTION_HEADER}
pub use Rattle.cli_regions.proofs.SearchLemmas.{Completes, adds_none, and_then, joins_none, more_left, none_left, numbered_more, said_as}
