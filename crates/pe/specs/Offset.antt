-- The file offset of the bytes at an address, an RVA (ECMA-335 II.25.3).
use Rattle.std.specs.Prelude.{◌≡◌, ℕ, ◌+◌, ◌-◌, ◌≤◌, Bool, ◌&&◌, nat_le, Option, Some, length}
use Rattle.std.specs.List.{find}
use Rattle.std.specs.Option.{option_map}
use Rattle.pe.specs.declared.section.SectionHeader.{SectionHeader}
use Rattle.pe.specs.Image.{Image}

-- the section has all of the `count` bytes at an address in its raw data
abbrev pub has_bytes : ℕ → ℕ → SectionHeader → Bool
has_bytes rva count section =
    nat_le section.virtual_address rva && nat_le (rva + count) (section.virtual_address + section.size_of_raw_data)

-- the file offset of these bytes in the first section that has all of them
abbrev pub offset_at : Image → ℕ → ℕ → Option ℕ
offset_at image rva count =
    option_map (λ section. section.pointer_to_raw_data + rva - section.virtual_address) (find (has_bytes rva count) image.sections)

-- the `count` bytes at an address are at this file offset, and end within the file
pub record IsFileOffset (image : Image) (rva count offset : ℕ) : Type 0 where
  pub first : offset_at image rva count ≡ Some offset
  pub within : offset + count ≤ length image.bytes
