-- The values in the bytes of the CLI header (ECMA-335 II.25.3.3), whether or not they are a valid header.
use Rattle.std.specs.Prelude.{ℕ, ◌+◌, List, unwrap_or}
use Rattle.packed.specs.Number.{little_endian}
use Rattle.packed.specs.Offsets.{part}
use Rattle.pe.specs.Image.{Image}
use Rattle.pe.specs.Offset.{offset_at}
use Rattle.cli_header.specs.declared.header.CliHeader.{CliHeader}
use Rattle.cli_header.specs.declared.header.DataDirectory.{DataDirectory}

-- the file offset of the header
abbrev pub header_offset : Image → ℕ
header_offset image = unwrap_or (offset_at image image.cli_directory.0 72) 0

-- the bytes of the header
abbrev pub header_bytes : Image → List ℕ
header_bytes image = part image.bytes (header_offset image) 72

-- the data directory at an offset in the header
abbrev pub directory_at : List ℕ → ℕ → DataDirectory
directory_at header place = record { rva = little_endian (part header place 4); size = little_endian (part header (place + 4) 4) }

-- MetaData (II.25.3.3)
abbrev pub metadata : Image → DataDirectory
metadata image = directory_at (header_bytes image) 8

-- the file offset of the metadata root
abbrev pub root_offset : Image → ℕ
root_offset image = unwrap_or (offset_at image (metadata image).rva (metadata image).size) 0

-- the whole header
abbrev pub header_of : Image → CliHeader
header_of image = record {
  place = header_offset image;
  cb = little_endian (part (header_bytes image) 0 4);
  major_runtime_version = little_endian (part (header_bytes image) 4 2);
  minor_runtime_version = little_endian (part (header_bytes image) 6 2);
  metadata = metadata image;
  flags = little_endian (part (header_bytes image) 16 4);
  entry_point_token = little_endian (part (header_bytes image) 20 4);
  resources = directory_at (header_bytes image) 24;
  strong_name_signature = directory_at (header_bytes image) 32;
  code_manager_table = directory_at (header_bytes image) 40;
  vtable_fixups = directory_at (header_bytes image) 48;
  export_address_table_jumps = directory_at (header_bytes image) 56;
  managed_native_header = directory_at (header_bytes image) 64;
  root = record { start = root_offset image; «end» = root_offset image + (metadata image).size };
}
