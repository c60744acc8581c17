-- What several proofs of this crate name of std, of the crates below, and of its own definitions.
pub use Rattle.std.proofs.Common.{◌≡◌, ℕ, ◌<◌, ◌≤◌, List, sym, ◌∙◌, arith, lit<, ◌%◌, ◌/◌, ◌⊎◌, inl, inr, refl, ap, suc, ◌+◌, ◌*◌, ◌^◌, ◌==◌, false, [], ◌∷◌, length, take, drop, subst, zero, ◌-◌, cond, true, replicate, max, ◌++◌, Some, Result, Ok, Err, IfErr, append_assoc, Bool, Option, None, vec_len, eq-eqb, below_more}
pub use Rattle.std.proofs.Math.Logic.{∥∥₁_elim, ∥∥₁_map}
pub use Rattle.std.proofs.Math.Seq.{drop-append-add}
pub use Rattle.std.proofs.lemmas.Bool.{cases_eq, cases_lt, false≢true}
pub use Rattle.std.proofs.lemmas.Bool.Decides.{nat_tests}
pub use Rattle.std.proofs.lemmas.List.{take-take, drop-take, drop-drop, append-nil, take-append-le, length-drop, length-take, length-replicate, take_all, length-append, drop_at, take_at}
pub use Rattle.std.proofs.lemmas.Result.{err_from_is_err_and}
pub use Rattle.std.specs.Coded.{Coded-set, coded_list, coded_ℕ, le_prop}
pub use Rattle.packed.specs.Limit.{byte_limit}
pub use Rattle.packed.specs.Number.{little_endian}
pub use Rattle.packed.specs.Offsets.{part}
pub use Rattle.packed.specs.Rule.{AllHold, Rule, FirstBroken}
pub use Rattle.pe.specs.Headers.{lfanew, section_count, sections_offset, sections_from, image_of, optional_header_size, magic, wider, directory_count, directory_offset, section_at}
pub use Rattle.pe.specs.Image.{Image, IsImage}
pub use Rattle.pe.specs.Offset.{has_bytes, IsFileOffset}
pub use Rattle.pe.specs.Rules.{rules_of_image}
pub use Rattle.pe.specs.declared.section.SectionHeader.{SectionHeader}
pub use Rattle.cli_header.specs.Header.{fields_of, IsCliHeader}
pub use Rattle.cli_header.specs.Rules.{rules_of_cli_header}
pub use Rattle.cli_header.specs.Said.{header_of}
pub use Rattle.cli_header.specs.declared.header.CliHeader.{CliHeader}
pub use Rattle.heap_entries.specs.Padding.{zero_padded}
pub use Rattle.table_schema.specs.declared.table.TableId.{TableId}
pub use Rattle.table_schema.specs.declared.table.TableId.TheVariants.{MethodDef, File, FieldRVA}
pub use Rattle.schema.proofs.NumberLemmas.{IsBytes, part_fits, number_bytes-encode}
pub use Rattle.schema.specs.LaidOut.{number_bytes}
pub use Rattle.metadata.specs.Metadata.{Metadata, count_in, cell_in}
pub use Rattle.metadata.specs.Model.{IsModel, IsEntryPoint, IsModelOfFile, has_native_entry_point}
unfoldable pub use Rattle.metadata.specs.Rules.{rules_of_file, rules_of_metadata, rules_of_entry_point}
pub use Rattle.metadata.specs.Source.{rows_in, Source}
unfoldable pub use Rattle.metadata.specs.Source.{number_of}
pub use Rattle.metadata.specs.SourceAt.{source_of}
pub use Rattle.metadata.specs.Streams.{root_in}
pub use Rattle.opening.specs.Views.{HasImage, HasModel}
unfoldable pub use Rattle.opening.specs.Views.{row_count, user_of}
pub use Rattle.file_ranges.specs.Fields.{field_offset, field_of, last, headers_end, full_size, aligned, raw_size, raw_end, section_offset, address_end, raw_offset, virtual_address}
pub use Rattle.file_ranges.specs.declared.field.Field.TheVariants.{Checksum, FileAlignment, SectionAlignment, ImageSize}
pub use Rattle.embedding.specs.Bytes.{Change, changed, with_bytes, checksum, sum_of_words}
pub use Rattle.embedding.specs.Embedded.{IsHeaderOf, AreHeadersApart, IsEmbedded, HasItsModel, embedded, new_header, unsigned_flags, copied, with_checksum, header_changes, strong_name_changes, certificate_changes}
pub use Rattle.embedding.specs.Errors.{AreOpen, IsMisfit, IsReason, MatchFault, IsNoFault}
pub use Rattle.embedding.specs.Matching.{HaveSameAddresses, LeadsAlike}
pub use Rattle.embedding.specs.Planned.{Planned, IsPlanned, target_in, result_of, shown_plan}
pub use Rattle.embedding.specs.Slots.{target_of, FitsAt, IsInRange, IsSlot, HasRoom, IsLongerSection, IsNewSection, address_before, machine, root_bytes, slot_changes, metadata_changes, image_size}
pub use Rattle.embedding.specs.declared.error.EmbedError.{EmbedError}
pub use Rattle.embedding.specs.declared.slot.Slot.{Slot}
pub use Rattle.embedding.specs.declared.slot.Slot.TheVariants.{Reused, Appended, Extended}
pub use Rattle.embedding.specs.declared.slot.Target.{Target}
pub use Rattle.embedding.specs.declared.strong_name.StrongName.{StrongName}
pub use Rattle.embedding.specs.declared.strong_name.StrongName.TheVariants.{Keep, Clear}
