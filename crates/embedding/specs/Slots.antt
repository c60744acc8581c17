-- Where another root goes in a file, and which fields of the headers change with it (ECMA-335 II.25.2, II.25.3 and
-- II.25.3.3).
use Rattle.std.specs.Prelude.{◌≡◌, ℕ, zero, suc, ◌+◌, ◌-◌, ◌*◌, ◌^◌, ◌<◌, ◌≤◌, ◌⊎◌, max, List, [], ◌∷◌, ◌++◌, length, replicate}
use Rattle.packed.specs.Limit.{byte_limit}
use Rattle.packed.specs.Number.{little_endian}
use Rattle.packed.specs.Offsets.{part}
use Rattle.pe.specs.Headers.{image_of, section_count}
use Rattle.pe.specs.Offset.{IsFileOffset}
use Rattle.cli_header.specs.declared.header.CliHeader.{CliHeader}
use Rattle.metadata.specs.Source.{Source}
use Rattle.file_ranges.specs.declared.field.Field.TheVariants.{Machine, InitializedDataSize, SectionAlignment, FileAlignment, ImageSize, HeaderSize}
use Rattle.file_ranges.specs.Fields.{number_at, field_offset, field_of, aligned, certificate_offset, section_offset, last, virtual_address, raw_size, raw_offset, full_size, address_end, raw_end, headers_end}
use Rattle.file_ranges.specs.Occupied.{IsFree}
use Rattle.embedding.specs.declared.slot.Slot.{Slot}
use Rattle.embedding.specs.declared.slot.Slot.TheVariants.{Reused, Appended, Extended}
use Rattle.embedding.specs.declared.slot.Target.{Target}
use Rattle.embedding.specs.Bytes.{Change, change}

-- What a slot of a root of `len` bytes comes to: how many bytes of the file stay, the length of the result, the offset
-- and the RVA of the root, and the size in the file of a section that is new or longer. A longer section takes the place of
-- what follows it, a certificate.
abbrev pub target_of : List ℕ → CliHeader → ℕ → Slot → Target
target_of file header len Reused = record {
  kept = length file;
  len = length file;
  start = header.root.start;
  address = header.metadata.rva;
  raw_size = 0;
}
target_of file header len (Appended address offset) = record {
  kept = length file;
  len = offset + aligned (field_of file FileAlignment) len;
  start = offset;
  address = address;
  raw_size = aligned (field_of file FileAlignment) len;
}
target_of file header len (Extended within) = record {
  kept = raw_end file (last file);
  len = raw_offset file (last file) + aligned (field_of file FileAlignment) (within + len);
  start = raw_offset file (last file) + within;
  address = virtual_address file (last file) + within;
  raw_size = aligned (field_of file FileAlignment) (within + len);
}

-- the numbers that a slot is made of are there: alignments, and a last section
abbrev pub HasSlot : List ℕ → Slot → Type 0
HasSlot file Reused = Unit {0}
HasSlot file (Appended address offset) = 0 < field_of file FileAlignment
HasSlot file (Extended within) = (0 < field_of file FileAlignment) × (0 < section_count file)

-- the root, and zeros up to the end of the range that MetaData named, if it is there
abbrev pub root_bytes : List ℕ → CliHeader → Slot → List ℕ
root_bytes root header Reused = root ++ replicate (header.metadata.size - length root) 0
root_bytes root header _ = root

-- the header of the new section (II.25.3): its name `.clim`; VirtualSize, VirtualAddress, SizeOfRawData and
-- PointerToRawData; neither relocations nor line numbers; initialized data that is read
abbrev pub section_header : ℕ → ℕ → Target → List Change
section_header offset len target =
    change offset 0x696C632E
    ∷ change (offset + 4) 0x6D
    ∷ change (offset + 8) len
    ∷ change (offset + 12) target.address
    ∷ change (offset + 16) target.raw_size
    ∷ change (offset + 20) target.start
    ∷ change (offset + 36) 0x40000040
    ∷ []

-- the size of the image in memory, which ends with the root
abbrev pub image_size : List ℕ → ℕ → Target → ℕ
image_size file len target = aligned (field_of file SectionAlignment) (target.address + len)

-- Machine, the two bytes before Number of Sections (II.25.2.2)
abbrev pub machine : List ℕ → ℕ
machine file = little_endian (part file (field_offset file Machine) 2)

-- one more section: Number of Sections, which follows Machine; Initialized Data Size; Image Size; and its header
abbrev pub appended_changes : List ℕ → ℕ → Target → List Change
appended_changes file len target =
    change (field_offset file Machine) (machine file + 0x10000 * (section_count file + 1))
    ∷ change (field_offset file InitializedDataSize) (field_of file InitializedDataSize + target.raw_size)
    ∷ change (field_offset file ImageSize) (image_size file len target)
    ∷ section_header (headers_end file) len target

-- a longer last section: VirtualSize and SizeOfRawData; Initialized Data Size; Image Size
abbrev pub extended_changes : List ℕ → ℕ → ℕ → Target → List Change
extended_changes file within len target =
    change (section_offset file (last file) + 8) (within + len)
    ∷ change (section_offset file (last file) + 16) target.raw_size
    ∷ change (field_offset file InitializedDataSize) (field_of file InitializedDataSize + target.raw_size - raw_size file (last file))
    ∷ change (field_offset file ImageSize) (image_size file len target)
    ∷ []

-- what changes in the headers of the PE file
abbrev pub slot_changes : List ℕ → ℕ → Slot → Target → List Change
slot_changes file len Reused target = []
slot_changes file len (Appended address offset) target = appended_changes file len target
slot_changes file len (Extended within) target = extended_changes file within len target

-- MetaData (II.25.3.3)
abbrev pub metadata_changes : CliHeader → ℕ → Target → List Change
metadata_changes header len target = change (header.place + 8) target.address ∷ change (header.place + 12) len ∷ []

-- the root fits into the range that MetaData names, which has nothing else in it, and is found there
pub record FitsOldRange (file : List ℕ) (len : ℕ) (header : CliHeader) (source : Source) : Type 0 where
  pub short : len ≤ header.metadata.size
  pub found : IsFileOffset (image_of file) header.metadata.rva len header.root.start
  pub free : IsFree header file source

-- a file has alignments that can be used (II.25.2.3.2)
pub record IsAligned (file : List ℕ) : Type 0 where
  pub memory : 0 < field_of file SectionAlignment
  pub bytes : 0 < field_of file FileAlignment

-- the numbers of a section that is new or longer fit their fields, and the result is short enough
pub record IsInRange (file : List ℕ) (len : ℕ) (target : Target) : Type 0 where
  pub alignments : IsAligned file
  pub result : target.len ≤ byte_limit
  pub memory : image_size file len target < 2 ^ 32
  pub initialized : field_of file InitializedDataSize + target.raw_size < 2 ^ 32

-- There is room for one more section header: 40 zeros follow the last one, within the headers, and before the CLI header
-- and the bytes of each section (II.25.2.3.2 and II.25.3).
pub record HasRoom (file : List ℕ) (header : CliHeader) : Type 0 where
  pub count : section_count file < 0xFFFF
  pub room : headers_end file + 40 ≤ field_of file HeaderSize
  pub within : headers_end file + 40 ≤ length file
  pub zeros : part file (headers_end file) 40 ≡ replicate 40 0
  pub cli_header : headers_end file + 40 ≤ header.place
  pub sections : (index : ℕ) → index < section_count file → (raw_size file index ≡ 0) ⊎ (headers_end file + 40 ≤ raw_offset file index)

-- the file ends at an offset, or a certificate is all that follows (II.25.2.3.3)
abbrev pub EndsFile : List ℕ → ℕ → Type 0
EndsFile file offset =
    (offset ≡ length file)
    ⊎ ((offset < length file) × (number_at file (certificate_offset file) ≡ offset)
    × (length file ≤ offset + number_at file (certificate_offset file + 4)))

-- the end in memory of the sections before an index
abbrev pub address_before : List ℕ → ℕ → ℕ
address_before file zero = 0
address_before file (suc index) = max (address_before file index) (address_end file index)

-- a new section goes after all others in memory, and after all bytes of the file (II.25.2.3.2 and II.25.3)
pub record IsNewSection (file : List ℕ) (address offset : ℕ) : Type 0 where
  pub address_is : address ≡ aligned (field_of file SectionAlignment) (max (address_before file (section_count file)) (field_of file ImageSize))
  pub offset_is : offset ≡ aligned (field_of file FileAlignment) (length file)

-- The last section can be longer: no other ends after it in memory or begins there, nor ends after it in the file; and it
-- ends with the file, or a certificate is all that follows (II.25.2.3.3 and II.25.3).
pub record IsLongerSection (file : List ℕ) (header : CliHeader) (within : ℕ) : Type 0 where
  pub some : 0 < section_count file
  pub within_is : within ≡ aligned 4 (full_size file (last file))
  pub last_in_memory : (index : ℕ) → index < last file → address_end file index ≤ virtual_address file (last file)
  pub last_in_file : (index : ℕ) → index < last file → raw_end file index ≤ raw_end file (last file)
  pub header_before : header.place + 72 ≤ raw_end file (last file)
  pub ends : EndsFile file (raw_end file (last file))

-- A root of `len` bytes goes at a slot, whether or not its numbers fit their fields: into the range that MetaData names, if
-- it is not longer; else into a new section, if there is room for its header; else into the last section.
abbrev pub IsSlot : List ℕ → ℕ → CliHeader → Source → Slot → Type 0
IsSlot file len header source Reused = FitsOldRange file len header source
IsSlot file len header source (Appended address offset) =
    (header.metadata.size < len) × HasRoom file header × IsNewSection file address offset
IsSlot file len header source (Extended within) =
    (header.metadata.size < len) × (¬ HasRoom file header) × IsLongerSection file header within

-- the numbers of a section that is new or longer are in range
abbrev pub IsSlotInRange : List ℕ → ℕ → CliHeader → Slot → Type 0
IsSlotInRange file len header Reused = Unit {0}
IsSlotInRange file len header slot = IsInRange file len (target_of file header len slot)

-- a root of `len` bytes fits at a slot of a file
pub record FitsAt (file : List ℕ) (len : ℕ) (header : CliHeader) (source : Source) (slot : Slot) : Type 0 where
  pub is_slot : IsSlot file len header source slot
  pub in_range : IsSlotInRange file len header slot
  pub address : (target_of file header len slot).address < 2 ^ 32
