-- The CLI header of an image (ECMA-335 II.25.3.3): the relation between an image and the fields of its header.
use Rattle.std.specs.Prelude.{◌≡◌, ◌≢◌, ◌+◌, ◌≤◌, List, [], ◌∷◌}
use Rattle.packed.specs.Fields.{Field, number, StandAt}
use Rattle.pe.specs.Image.{Image}
use Rattle.pe.specs.Offset.{IsFileOffset}
use Rattle.cli_header.specs.declared.header.CliHeader.{CliHeader}

-- the fields of the header in order, each with its size in bytes (II.25.3.3)
abbrev pub fields_of : CliHeader → List Field
fields_of header =
    number 4 header.cb
    ∷ number 2 header.major_runtime_version
    ∷ number 2 header.minor_runtime_version
    ∷ number 4 header.metadata.rva
    ∷ number 4 header.metadata.size
    ∷ number 4 header.flags
    ∷ number 4 header.entry_point_token
    ∷ number 4 header.resources.rva
    ∷ number 4 header.resources.size
    ∷ number 4 header.strong_name_signature.rva
    ∷ number 4 header.strong_name_signature.size
    ∷ number 4 header.code_manager_table.rva
    ∷ number 4 header.code_manager_table.size
    ∷ number 4 header.vtable_fixups.rva
    ∷ number 4 header.vtable_fixups.size
    ∷ number 4 header.export_address_table_jumps.rva
    ∷ number 4 header.export_address_table_jumps.size
    ∷ number 4 header.managed_native_header.rva
    ∷ number 4 header.managed_native_header.size
    ∷ []

-- the image's data directory names a CLI header (II.25.2.3.3)
abbrev pub IsNamed : Image → Type 0
IsNamed image = (image.cli_directory.0 ≢ 0) × (image.cli_directory.1 ≢ 0)

-- The image has this CLI header. Its data directory names at least 72 bytes, and the fields are in the first 72 of
-- them. Cb is at least 72. The metadata root is the bytes that MetaData names.
pub record IsCliHeader (image : Image) (header : CliHeader) : Type 0 where
  pub named : IsNamed image
  pub long : 72 ≤ image.cli_directory.1
  pub place : IsFileOffset image image.cli_directory.0 72 header.place
  pub fields : StandAt image.bytes header.place (fields_of header)
  pub enough : 72 ≤ header.cb
  pub root : IsFileOffset image header.metadata.rva header.metadata.size header.root.start
  pub root_end : header.root.«end» ≡ header.root.start + header.metadata.size
