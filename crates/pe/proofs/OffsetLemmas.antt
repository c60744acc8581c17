-- The file offset of the bytes at an address, by the fields of an image that was read.
use Rattle.pe.proofs.Prelude.{◌≡◌, ℕ, ◌+◌, ◌-◌, ◌≤◌, sym, ap, ◌∙◌, Some, find, SectionHeader, sections_from, section_count, Image, has_bytes, offset_at}
use Rattle.std.specs.Option.{option_map}
use Rattle.pe.specs.declared.image.Pe.TheInside.{Inside}
use Rattle.pe.specs.Checked.{shown_image, IsChecked}
use Rattle.pe.proofs.SectionLemmas.{found_before}

-- the properties of a section that was found
pub record OffsetFound (image : Image) (rva n : ℕ) (section : SectionHeader) : Type 0 where
  pub before : section.virtual_address ≤ rva
  pub offset : offset_at image rva n ≡ Some (section.pointer_to_raw_data + rva - section.virtual_address)

pub offset_found : (pe : Inside) (image : Image) (rva n : ℕ) (section : SectionHeader) → IsChecked pe → shown_image pe ≡ image
    → Some section ≡ find (has_bytes rva n) (sections_from pe.bytes.now pe.sections_offset pe.section_count) → OffsetFound image rva n section
offset_found pe image rva n section checked shown found =
    let sections : image.sections ≡ sections_from pe.bytes.now pe.sections_offset pe.section_count =
    ap (λ (i : Image). i.sections) (sym shown)
    ∙ ap (λ (p : ℕ). sections_from pe.bytes.now p (section_count pe.bytes.now)) (sym checked.sections)
    ∙ ap (sections_from pe.bytes.now pe.sections_offset) (sym checked.count) in
    let is : find (has_bytes rva n) image.sections ≡ Some section = ap (find (has_bytes rva n)) sections ∙ sym found in
    record {
      before = found_before rva n image.sections section is;
      offset = ap (option_map (λ s. s.pointer_to_raw_data + rva - s.virtual_address)) is;
    }
