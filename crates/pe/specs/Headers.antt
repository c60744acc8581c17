-- The values in the headers of an image (ECMA-335 II.25.2 and II.25.3), whether or not the bytes are an image.
use Rattle.std.specs.Prelude.{ℕ, zero, suc, ◌+◌, ◌==◌, if◌then◌else◌, List, [], ◌∷◌}
use Rattle.packed.specs.Number.{little_endian}
use Rattle.packed.specs.Offsets.{part}
use Rattle.pe.specs.declared.section.SectionHeader.{SectionHeader}
use Rattle.pe.specs.Image.{Image}

-- lfanew: the offset of the PE signature (II.25.2.1)
abbrev pub lfanew : List ℕ → ℕ
lfanew file = little_endian (part file 0x3C 4)

-- Number of Sections (II.25.2.2)
abbrev pub section_count : List ℕ → ℕ
section_count file = little_endian (part file (lfanew file + 6) 2)

-- Optional Header Size (II.25.2.2)
abbrev pub optional_header_size : List ℕ → ℕ
optional_header_size file = little_endian (part file (lfanew file + 20) 2)

-- Magic (II.25.2.3.1)
abbrev pub magic : List ℕ → ℕ
magic file = little_endian (part file (lfanew file + 24) 2)

-- the number of bytes that PE32+ has more than PE32 before the data directories
abbrev pub wider : List ℕ → ℕ
wider file = if magic file == 0x20B then 16 else 0

-- Number of Data Directories (II.25.2.3.2)
abbrev pub directory_count : List ℕ → ℕ
directory_count file = little_endian (part file (lfanew file + 116 + wider file) 4)

-- the offset of the CLI header's data directory: RVA and size (II.25.2.3.3)
abbrev pub directory_offset : List ℕ → ℕ
directory_offset file = lfanew file + 232 + wider file

-- the offset of the first section header (II.25.3)
abbrev pub sections_offset : List ℕ → ℕ
sections_offset file = lfanew file + 24 + optional_header_size file

-- the section header at an offset (II.25.3)
abbrev pub section_at : List ℕ → ℕ → SectionHeader
section_at file offset = record {
  virtual_address = little_endian (part file (offset + 12) 4);
  size_of_raw_data = little_endian (part file (offset + 16) 4);
  pointer_to_raw_data = little_endian (part file (offset + 20) 4);
}

-- `count` section headers, the first at offset `offset`
abbrev pub sections_from : List ℕ → ℕ → ℕ → List SectionHeader
sections_from file offset zero = []
sections_from file offset (suc count) = section_at file offset ∷ sections_from file (offset + 40) count

-- the whole image
abbrev pub image_of : List ℕ → Image
image_of file = record {
  bytes = file;
  cli_directory = (little_endian (part file (directory_offset file) 4), little_endian (part file (directory_offset file + 4) 4));
  cli_directory_offset = directory_offset file;
  sections = sections_from file (sections_offset file) (section_count file);
}
