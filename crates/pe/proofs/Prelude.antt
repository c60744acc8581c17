-- What several proofs of this crate name of std, of the crates below, and of its own definitions.
pub use Rattle.std.proofs.Common.{◌≡◌, ℕ, ◌+◌, ◌-◌, ◌*◌, ◌≤◌, ◌⊎◌, inl, inr, List, ◌∷◌, ◌++◌, length, refl, sym, ap, ◌∙◌, subst, arith, Result, Ok, Err, Some, zero, suc, ◌<◌, [], Bool, true, false, cond, Option}
pub use Rattle.std.proofs.lemmas.Grind.{common_steps}
pub use Rattle.std.specs.List.{flat_map, find}
pub use Rattle.packed.specs.Fields.{Field, literal, StandAt, AllSay, widths}
pub use Rattle.packed.specs.Number.{little_endian}
pub use Rattle.packed.specs.Offsets.{part}
pub use Rattle.pe.specs.Headers.{lfanew, magic, wider, section_count, optional_header_size, directory_count, directory_offset, sections_offset, sections_from, image_of, section_at}
pub use Rattle.pe.specs.Image.{Image, Format, pe32, pe32_plus, magic_of, wider_by, dos_header, pe_signature, file_header, optional_header, section_header, IsImage}
pub use Rattle.pe.specs.Offset.{has_bytes, offset_at}
pub use Rattle.pe.specs.declared.section.SectionHeader.{SectionHeader}
