-- A copy of a file in which only the metadata is another (ECMA-335 II.25).
use Rattle.std.specs.Prelude.{◌≡◌, ℕ, ◌+◌, ◌-◌, ◌*◌, ◌%◌, ◌/◌, ◌≤◌, ◌==◌, if◌then◌else◌, List, [], ◌∷◌, ◌++◌, length, take, replicate}
use Rattle.packed.specs.Rule.{AllHold}
use Rattle.pe.specs.Headers.{image_of, lfanew}
use Rattle.pe.specs.Rules.{rules_of_image}
use Rattle.cli_header.specs.declared.header.CliHeader.{CliHeader}
use Rattle.cli_header.specs.declared.header.DataDirectory.{DataDirectory}
use Rattle.cli_header.specs.Rules.{rules_of_cli_header}
use Rattle.cli_header.specs.Said.{header_of}
use Rattle.metadata.specs.Metadata.{Metadata}
use Rattle.metadata.specs.Model.{IsModelOfFile}
use Rattle.metadata.specs.SourceAt.{source_of}
use Rattle.metadata.specs.Streams.{root_in}
use Rattle.opening.specs.Views.{HasImage}
use Rattle.schema.specs.LaidOut.{number_bytes}
use Rattle.embedding.specs.declared.slot.Slot.{Slot}
use Rattle.embedding.specs.declared.slot.Target.{Target}
use Rattle.embedding.specs.declared.strong_name.StrongName.{StrongName}
use Rattle.embedding.specs.declared.strong_name.StrongName.TheVariants.{Keep, Clear}
use Rattle.embedding.specs.Bytes.{Change, change, changed, with_bytes, checksum}
use Rattle.file_ranges.specs.declared.field.Field.TheVariants.{Checksum}
use Rattle.file_ranges.specs.Fields.{field_offset, field_of, certificate_offset, headers_end}
use Rattle.embedding.specs.Matching.{LeadsAlike}
use Rattle.embedding.specs.Slots.{target_of, root_bytes, slot_changes, metadata_changes, FitsAt}

-- flags without 8, that of a strong name (II.25.3.3.1)
abbrev pub unsigned_flags : ℕ → ℕ
unsigned_flags flags = flags - 8 * (flags / 8 % 2)

-- if the strong name is cleared: Flags without its flag, and zeros for StrongNameSignature (II.25.3.3)
abbrev pub strong_name_changes : CliHeader → StrongName → List Change
strong_name_changes header Keep = []
strong_name_changes header Clear =
    change (header.place + 16) (unsigned_flags header.flags) ∷ change (header.place + 32) 0 ∷ change (header.place + 36) 0 ∷ []

-- zeros for the directory of the Certificate Table, whose signature of the file is no longer right (II.25.2.3.3)
abbrev pub certificate_changes : List ℕ → List Change
certificate_changes file = change (certificate_offset file) 0 ∷ change (certificate_offset file + 4) 0 ∷ []

-- all that changes in headers but for the checksum
abbrev pub header_changes : StrongName → List ℕ → List ℕ → CliHeader → Slot → List Change
header_changes strong_name file root header slot =
    let target = target_of file header (length root) slot in
    slot_changes file (length root) slot target
    ++ (metadata_changes header (length root) target
    ++ (strong_name_changes header strong_name
    ++ certificate_changes file))

-- a file with its File Checksum, if that was not 0 (II.25.2.3.2)
abbrev pub with_checksum : List ℕ → List ℕ → List ℕ
with_checksum file result =
    let blank = with_bytes (field_offset file Checksum) (number_bytes 4 0) result in
    if field_of file Checksum == 0 then result
    else with_bytes (field_offset file Checksum) (number_bytes 4 (checksum blank)) blank

-- the bytes of the file that stay, and zeros up to the length of the result
abbrev pub copied : List ℕ → Target → List ℕ
copied file target = take target.kept file ++ replicate (target.len - target.kept) 0

-- The file with another root: each byte of the headers that changes, the root, and last the checksum.
abbrev pub embedded : StrongName → List ℕ → List ℕ → CliHeader → Slot → List ℕ
embedded strong_name file root header slot =
    let target = target_of file header (length root) slot in
    with_checksum file
    (with_bytes target.start (root_bytes root header slot)
    (changed (header_changes strong_name file root header slot) (copied file target)))

-- the file opens with this CLI header, and the header and the metadata are in the file
pub record IsHeaderOf (file : List ℕ) (header : CliHeader) : Type 0 where
  pub image : AllHold (rules_of_image file)
  pub cli_header : AllHold (rules_of_cli_header (image_of file))
  pub header_is : header ≡ header_of (image_of file)
  pub model : HasImage file header
  pub header_within : header.place + 72 ≤ length file
  pub root : header.root.start + header.metadata.size ≤ length file

-- the headers do not overlap: the PE headers begin after the MS-DOS header, and end before the CLI header and the metadata
pub record AreHeadersApart (file : List ℕ) (header : CliHeader) : Type 0 where
  pub dos : 64 ≤ lfanew file
  pub cli_header : headers_end file ≤ header.place
  pub root : headers_end file ≤ header.root.start

-- a file opens, and the result is the file with this root in the place of its own
pub record IsEmbedded (strong_name : StrongName) (file root result : List ℕ) : Type 0 where
  pub header : CliHeader
  pub opens : IsHeaderOf file header
  pub slot : Slot
  pub apart : AreHeadersApart file header
  pub fits : FitsAt file (length root) header (source_of (root_in file header)) slot
  pub leads : LeadsAlike root (root_in file header)
  pub bytes : result ≡ embedded strong_name file root header slot

abbrev pub flags_with : StrongName → CliHeader → ℕ
flags_with Keep header = header.flags
flags_with Clear header = unsigned_flags header.flags

abbrev pub strong_name_with : StrongName → CliHeader → DataDirectory
strong_name_with Keep header = header.strong_name_signature
strong_name_with Clear header = record { rva = 0; size = 0 }

-- the CLI header of the result: MetaData and its range are those of the root, and the strong name may be cleared
abbrev pub new_header : StrongName → CliHeader → List ℕ → ℕ → ℕ → CliHeader
new_header strong_name header root rva offset = record header {
  metadata = record { rva = rva; size = length root };
  flags = flags_with strong_name header;
  strong_name_signature = strong_name_with strong_name header;
  root = record { start = offset; «end» = offset + length root };
}

-- The result is a file with this model. Its CLI header is that of the file, but for the fields of `new_header`.
abbrev pub HasItsModel : StrongName → List ℕ → List ℕ → List ℕ → Metadata → Type 0
HasItsModel strong_name file root result model =
    (rva : ℕ) × (offset : ℕ) × IsModelOfFile result (new_header strong_name (header_of (image_of file)) root rva offset) model
