-- An image satisfies all rules if and only if it has a CLI header.
use Rattle.std.proofs.Common.{◌≡◌, ℕ, ◌+◌, ◌≤◌, List, length, take, drop, refl, sym, ap, ◌∙◌, subst, arith, unwrap_or, Result, Ok, Err, Option}
use Rattle.std.specs.Result.{IfOk, IsOkAnd}
use Rattle.packed.specs.declared.fault.Fault.{Fault}
use Rattle.packed.specs.Fields.{Field, StandAt, AllSay, widths}
use Rattle.packed.specs.Number.{little_endian}
use Rattle.packed.specs.Offsets.{part}
use Rattle.packed.specs.Rule.{AllHold, Reports}
use Rattle.packed.proofs.RuleLemmas.{none_fails}
use Rattle.pe.specs.Image.{Image}
use Rattle.pe.specs.Offset.{offset_at, IsFileOffset}
use Rattle.cli_header.specs.declared.header.CliHeader.{CliHeader}
use Rattle.cli_header.specs.declared.header.DataDirectory.{DataDirectory}
use Rattle.cli_header.specs.Header.{fields_of, IsCliHeader}
use Rattle.cli_header.specs.Said.{header_offset, header_bytes, directory_at, metadata, root_offset, header_of}
use Rattle.cli_header.specs.Rules.{HasFileOffset, rules_of_cli_header}

-- the file offset of bytes is the one that the first section with them gives
pub offset_is : (image : Image) (rva count offset : ℕ) → IsFileOffset image rva count offset → offset ≡ unwrap_or (offset_at image rva count) 0
offset_is image rva count offset is = ap (λ (o : Option ℕ). unwrap_or o 0) (sym is.first)

-- the 72 bytes after the header's offset are the header's bytes
pub split_off : (image : Image) (place : ℕ) (whole tail bytes : List ℕ) → place ≡ header_offset image → whole ≡ image.bytes → tail ≡ drop place whole → bytes ≡ take 72 tail → bytes ≡ header_bytes image
split_off image place whole tail bytes at is behind prefix = prefix ∙ ap (take 72) (behind ∙ ap (drop place) is ∙ ap (λ (p : ℕ). drop p image.bytes) at)

-- if bytes have a file offset, it is the computed one
has_offset : (image : Image) (rva count : ℕ) → HasFileOffset image rva count → IsFileOffset image rva count (unwrap_or (offset_at image rva count) 0)
has_offset image rva count (offset, is) =
    let At : ℕ → Type 0 = λ o. IsFileOffset image rva count o in
    subst At (offset_is image rva count offset is) is

-- fields are at an offset if there is room and each has the value of its bytes, counted in the part they cover
pub record FieldsAreParts : Type 0 where
  pub said_of_part : (whole : List ℕ) (place : ℕ) (fields : List Field) → StandAt whole place fields → AllSay (part whole place (widths fields)) 0 fields
  pub stand_by_part : (whole : List ℕ) (place : ℕ) (fields : List Field) → place + widths fields ≤ length whole → AllSay (part whole place (widths fields)) 0 fields → StandAt whole place fields

-- an image that satisfies all rules has a header with the values of its bytes
pub header_from_rules : (known : FieldsAreParts) (image : Image) → AllHold (rules_of_cli_header image) → IsCliHeader image (header_of image)
header_from_rules known image all =
    let place = has_offset image image.cli_directory.0 72 all.1.0.1 in
    let within = place.within in
    record {
      named = all.0;
      long = all.1.0.0;
      place = place;
      fields = known.stand_by_part image.bytes (header_offset image) (fields_of (header_of image)) within
          (refl, (refl, (refl, (refl, (refl, (refl, (refl, (refl, (refl, (refl, (refl, (refl, (refl, (refl, (refl, (refl, (refl, (refl, (refl, tt)))))))))))))))))));
      enough = all.1.1.0;
      root = has_offset image (metadata image).rva (metadata image).size all.1.1.1.0;
      root_end = refl;
    }

directory_is : (bytes : List ℕ) (place : ℕ) (directory : DataDirectory) → directory.rva ≡ little_endian (part bytes place 4) → directory.size ≡ little_endian (part bytes (place + 4) 4) → directory ≡ directory_at bytes place
directory_is bytes place directory rva size =
    let make : ℕ → ℕ → DataDirectory = λ r s. record { rva = r; size = s } in
    ap (λ (r : ℕ). make r directory.size) rva ∙ ap (make (little_endian (part bytes place 4))) size

-- the header with the values of the bytes, its offset and the root's offset
pub record IsSaid (image : Image) (bytes : List ℕ) (header : CliHeader) : Type 0 where
  pub bytes_are : bytes ≡ header_bytes image
  pub place : header.place ≡ header_offset image
  pub cb : header.cb ≡ little_endian (part bytes 0 4)
  pub major : header.major_runtime_version ≡ little_endian (part bytes 4 2)
  pub minor : header.minor_runtime_version ≡ little_endian (part bytes 6 2)
  pub metadata_is : header.metadata ≡ directory_at bytes 8
  pub flags : header.flags ≡ little_endian (part bytes 16 4)
  pub entry_point : header.entry_point_token ≡ little_endian (part bytes 20 4)
  pub resources : header.resources ≡ directory_at bytes 24
  pub strong_name : header.strong_name_signature ≡ directory_at bytes 32
  pub code_manager : header.code_manager_table ≡ directory_at bytes 40
  pub vtable : header.vtable_fixups ≡ directory_at bytes 48
  pub export_jumps : header.export_address_table_jumps ≡ directory_at bytes 56
  pub native : header.managed_native_header ≡ directory_at bytes 64
  pub root : IsFileOffset image header.metadata.rva header.metadata.size header.root.start
  pub root_end : header.root.«end» ≡ header.root.start + header.metadata.size

-- MetaData, as it is read from the bytes
pub metadata_read : (image : Image) (bytes : List ℕ) (directory : DataDirectory) → bytes ≡ header_bytes image → directory ≡ directory_at bytes 8 → directory ≡ metadata image
metadata_read image bytes directory bytes_are is = is ∙ ap (λ (b : List ℕ). directory_at b 8) bytes_are

pub header_is : (image : Image) (bytes : List ℕ) (header : CliHeader) → IsSaid image bytes header → header ≡ header_of image
header_is image bytes header h =
    let md = metadata_read image bytes header.metadata h.bytes_are h.metadata_is in
    let start : header.root.start ≡ root_offset image = offset_is image header.metadata.rva header.metadata.size header.root.start h.root
    ∙ ap (λ (d : DataDirectory). unwrap_or (offset_at image d.rva d.size) 0) md in
    let stop : header.root.«end» ≡ root_offset image + (metadata image).size = h.root_end ∙ ap (λ (s : ℕ). s + header.metadata.size) start ∙ ap (λ (d : DataDirectory). root_offset image + d.size) md in
    let make : ℕ → ℕ → ℕ → ℕ → DataDirectory → ℕ → ℕ → DataDirectory → DataDirectory → DataDirectory → DataDirectory → DataDirectory → DataDirectory → ℕ → ℕ → CliHeader =
    λ place cb major minor meta flags entry resources strong code vtable jumps native from to. record {
      place = place;
      cb = cb;
      major_runtime_version = major;
      minor_runtime_version = minor;
      metadata = meta;
      flags = flags;
      entry_point_token = entry;
      resources = resources;
      strong_name_signature = strong;
      code_manager_table = code;
      vtable_fixups = vtable;
      export_address_table_jumps = jumps;
      managed_native_header = native;
      root = record { start = from; «end» = to };
    } in
    let encoded : make header.place header.cb header.major_runtime_version header.minor_runtime_version header.metadata header.flags header.entry_point_token header.resources
    header.strong_name_signature header.code_manager_table header.vtable_fixups header.export_address_table_jumps header.managed_native_header header.root.start header.root.«end»
    ≡ header_of image = rw (h.place, h.cb, h.major, h.minor, md, h.flags, h.entry_point, h.resources, h.strong_name, h.code_manager, h.vtable, h.export_jumps, h.native, start, stop, h.bytes_are) refl in
    encoded

-- a header satisfies all rules and has the values of its bytes
pub record Meets (image : Image) (header : CliHeader) : Type 0 where
  pub all : AllHold (rules_of_cli_header image)
  pub is : header ≡ header_of image

pub header_meets : (known : FieldsAreParts) (image : Image) (header : CliHeader) → IsCliHeader image header → Meets image header
header_meets known image header h =
    let place : header.place ≡ header_offset image = offset_is image image.cli_directory.0 72 header.place h.place in
    let Said : ℕ → Type 0 = λ p. AllSay (part image.bytes p 72) 0 (fields_of header) in
    let said = subst Said place (known.said_of_part image.bytes header.place (fields_of header) h.fields) in
    let bytes : List ℕ = header_bytes image in
    let is : header ≡ header_of image = header_is image bytes header (record {
      bytes_are = refl;
      place = place;
      cb = said.0;
      major = said.1.0;
      minor = said.1.1.0;
      metadata_is = directory_is bytes 8 header.metadata said.1.1.1.0 said.1.1.1.1.0;
      flags = said.1.1.1.1.1.0;
      entry_point = said.1.1.1.1.1.1.0;
      resources = directory_is bytes 24 header.resources said.1.1.1.1.1.1.1.0 said.1.1.1.1.1.1.1.1.0;
      strong_name = directory_is bytes 32 header.strong_name_signature said.1.1.1.1.1.1.1.1.1.0 said.1.1.1.1.1.1.1.1.1.1.0;
      code_manager = directory_is bytes 40 header.code_manager_table said.1.1.1.1.1.1.1.1.1.1.1.0 said.1.1.1.1.1.1.1.1.1.1.1.1.0;
      vtable = directory_is bytes 48 header.vtable_fixups said.1.1.1.1.1.1.1.1.1.1.1.1.1.0 said.1.1.1.1.1.1.1.1.1.1.1.1.1.1.0;
      export_jumps = directory_is bytes 56 header.export_address_table_jumps said.1.1.1.1.1.1.1.1.1.1.1.1.1.1.1.0 said.1.1.1.1.1.1.1.1.1.1.1.1.1.1.1.1.0;
      native = directory_is bytes 64 header.managed_native_header said.1.1.1.1.1.1.1.1.1.1.1.1.1.1.1.1.1.0 said.1.1.1.1.1.1.1.1.1.1.1.1.1.1.1.1.1.1.0;
      root = h.root;
      root_end = h.root_end;
    }) in
    let Enough : CliHeader → Type 0 = λ k. 72 ≤ k.cb in
    let Rooted : CliHeader → Type 0 = λ k. HasFileOffset image k.metadata.rva k.metadata.size in
    record {
      all = (h.named, ((h.long, (header.place, h.place)), (subst Enough is h.enough, (subst Rooted is (header.root.start, h.root), tt))));
      is = is;
    }

-- Cb, as it is read from the bytes
pub enough_read : (image : Image) (bytes : List ℕ) (cb : ℕ) → bytes ≡ header_bytes image → cb ≡ little_endian (part bytes 0 4) → 72 ≤ cb → 72 ≤ (header_of image).cb
enough_read image bytes cb bytes_are is enough = let same : cb ≡ (header_of image).cb = is ∙ ap (λ (b : List ℕ). little_endian (part b 0 4)) bytes_are in omega arith

-- what the relation says of a result that reports the rules
pub reports_found : (image : Image) (r : Result CliHeader Fault) → Reports (rules_of_cli_header image) r → IfOk r (λ header. header ≡ header_of image)
    → (AllHold (rules_of_cli_header image) → IsCliHeader image (header_of image)) → IfOk r (λ header. IsCliHeader image header)
reports_found image (Ok header) all is found =
    let P : CliHeader → Type 0 = λ h. IsCliHeader image h in
    subst P (sym is) (found all)
reports_found image (Err fault) fails is found = tt

pub reports_only : (image : Image) (header : CliHeader) (r : Result CliHeader Fault) → Reports (rules_of_cli_header image) r → IfOk r (λ found. found ≡ header_of image)
    → AllHold (rules_of_cli_header image) → header ≡ header_of image → IsOkAnd r (λ found. found ≡ header)
reports_only image header (Ok found) all is meets said = is ∙ sym said
reports_only image header (Err found) fails is meets said = absurd (none_fails (rules_of_cli_header image) found meets fails)

pub reports_all : (image : Image) (r : Result CliHeader Fault) → Reports (rules_of_cli_header image) r → IfOk r (λ found. found ≡ header_of image)
    → IfOk r (λ header. AllHold (rules_of_cli_header image) × (header ≡ header_of image))
reports_all image (Ok header) all is = (all, is)
reports_all image (Err found) fails is = tt
