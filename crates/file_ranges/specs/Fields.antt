-- The fields of the PE headers that an embedding reads or changes (ECMA-335 II.25.2 and II.25.3), whether or not the
-- bytes are an image. Each is defined by its offset in the file.
use Rattle.std.specs.Prelude.{ℕ, ◌+◌, ◌*◌, ◌-◌, ◌/◌, max, List}
use Rattle.packed.specs.Number.{little_endian}
use Rattle.packed.specs.Offsets.{part}
use Rattle.file_ranges.specs.declared.field.Field.{Field}
use Rattle.file_ranges.specs.declared.field.Field.TheVariants.{Machine, InitializedDataSize, SectionAlignment, FileAlignment, ImageSize, HeaderSize, Checksum}
use Rattle.pe.specs.Headers.{lfanew, wider, section_count, sections_offset}

-- the number in the four bytes at an offset
abbrev pub number_at : List ℕ → ℕ → ℕ
number_at file offset = little_endian (part file offset 4)

-- the least multiple of an alignment that is not below a number
abbrev pub aligned : ℕ → ℕ → ℕ
aligned alignment number = (number + alignment - 1) / alignment * alignment

-- The offset of a field of four bytes. Number of Sections is the two bytes after Machine (II.25.2.2); Initialized Data Size is
-- a standard field (II.25.2.3.1), and the others are Windows-specific (II.25.2.3.2).
abbrev pub field_offset : List ℕ → Field → ℕ
field_offset file Machine = lfanew file + 4
field_offset file InitializedDataSize = lfanew file + 32
field_offset file SectionAlignment = lfanew file + 56
field_offset file FileAlignment = lfanew file + 60
field_offset file ImageSize = lfanew file + 80
field_offset file HeaderSize = lfanew file + 84
field_offset file Checksum = lfanew file + 88

-- the number in a field
abbrev pub field_of : List ℕ → Field → ℕ
field_of file field = number_at file (field_offset file field)

-- a data directory by its index, from 0: its RVA, and its size four bytes later (II.25.2.3.3)
abbrev pub directory_offset : List ℕ → ℕ → ℕ
directory_offset file index = lfanew file + 120 + wider file + 8 * index

-- the Certificate Table, the fifth directory: its first number is a file offset (II.25.2.3.3)
abbrev pub certificate_offset : List ℕ → ℕ
certificate_offset file = directory_offset file 4

-- the offset of a section header by its index, from 0 (II.25.3); that of the end, for the number of sections
abbrev pub section_offset : List ℕ → ℕ → ℕ
section_offset file index = sections_offset file + 40 * index

-- VirtualSize (II.25.3)
abbrev pub virtual_size : List ℕ → ℕ → ℕ
virtual_size file index = number_at file (section_offset file index + 8)

-- VirtualAddress (II.25.3)
abbrev pub virtual_address : List ℕ → ℕ → ℕ
virtual_address file index = number_at file (section_offset file index + 12)

-- SizeOfRawData (II.25.3)
abbrev pub raw_size : List ℕ → ℕ → ℕ
raw_size file index = number_at file (section_offset file index + 16)

-- PointerToRawData (II.25.3)
abbrev pub raw_offset : List ℕ → ℕ → ℕ
raw_offset file index = number_at file (section_offset file index + 20)

-- the size of a section in memory, or in the file if that is more
abbrev pub full_size : List ℕ → ℕ → ℕ
full_size file index = max (virtual_size file index) (raw_size file index)

-- the end of a section in memory
abbrev pub address_end : List ℕ → ℕ → ℕ
address_end file index = virtual_address file index + full_size file index

-- the end of a section in the file
abbrev pub raw_end : List ℕ → ℕ → ℕ
raw_end file index = raw_offset file index + raw_size file index

-- the index of the last section header
abbrev pub last : List ℕ → ℕ
last file = section_count file - 1

-- the end of the section headers, which are the last of the headers
abbrev pub headers_end : List ℕ → ℕ
headers_end file = section_offset file (section_count file)
