-- A file satisfies all rules if and only if it is an image.
use Rattle.pe.proofs.Prelude.{◌≡◌, ℕ, ◌+◌, ◌-◌, ◌*◌, ◌≤◌, ◌⊎◌, inl, inr, List, ◌∷◌, ◌++◌, length, refl, sym, ap, ◌∙◌, subst, arith, Result, Ok, Err, flat_map, Field, literal, StandAt, AllSay, widths, little_endian, part, SectionHeader, Image, Format, pe32, pe32_plus, magic_of, wider_by, dos_header, pe_signature, file_header, optional_header, section_header, IsImage, lfanew, magic, wider, section_count, optional_header_size, directory_count, directory_offset, sections_offset, sections_from, image_of}
use Rattle.std.specs.Result.{IfErr, IfOk, IsOkAnd}
use Rattle.packed.specs.declared.fault.Fault.{Fault}
use Rattle.packed.specs.Rule.{AllHold, FirstBroken, Reports}
use Rattle.packed.proofs.RuleLemmas.{none_fails}
use Rattle.pe.specs.Rules.{rules_of_image}
use Rattle.pe.proofs.SectionLemmas.{moved, length-sections_from, widths-sections, sections_say, sections_said}

-- fields are at an offset if there is room for them and each has the value of its bytes
pub record FieldsAreParts : Type 0 where
  pub said : (whole : List ℕ) (offset : ℕ) (fields : List Field) → StandAt whole offset fields → AllSay whole offset fields × (offset + widths fields ≤ length whole)
  pub stand : (whole : List ℕ) (offset : ℕ) (fields : List Field) → offset + widths fields ≤ length whole → AllSay whole offset fields → StandAt whole offset fields

-- the values of the headers from the PE signature on
record HeadersSay (file : List ℕ) (e : ℕ) (format : Format) (count left : ℕ) (directory : ℕ × ℕ) (sections : List SectionHeader) : Type 0 where
  signature : part file e 4 ≡ pe_signature
  sections_count : length sections ≡ little_endian (part file (e + 6) 2)
  size : 216 + wider_by format + left ≡ little_endian (part file (e + 20) 2)
  magic_is : magic_of format ≡ little_endian (part file (e + 24) 2)
  count_is : count ≡ little_endian (part file (e + 116 + wider_by format) 4)
  rva : directory.0 ≡ little_endian (part file (e + 232 + wider_by format) 4)
  bytes : directory.1 ≡ little_endian (part file (e + 232 + wider_by format + 4) 4)
  tail : AllSay file (e + 24 + (216 + wider_by format + left)) (flat_map section_header sections)

headers_say : (file : List ℕ) (e : ℕ) (format : Format) (count left : ℕ) (directory : ℕ × ℕ) (sections : List SectionHeader)
    → AllSay file e (literal pe_signature ∷ file_header (length sections) (216 + wider_by format + left) ++ optional_header format count directory left ++ flat_map section_header sections)
    → HeadersSay file e format count left directory sections
headers_say file e format count left directory sections says =
    let Said : ℕ → Type 0 = λ p. AllSay file p (flat_map section_header sections) in
    let w : ℕ = wider_by format in
    record {
      signature = says.0;
      sections_count = says.1.1.0 ∙ moved file (e + 4 + 2) (e + 6) 2 (omega arith);
      size = says.1.1.1.1.0 ∙ moved file (e + 4 + 2 + 2 + 12) (e + 20) 2 (omega arith);
      magic_is = says.1.1.1.1.1.1.0 ∙ moved file (e + 4 + 2 + 2 + 12 + 2 + 2) (e + 24) 2 (omega arith);
      count_is = says.1.1.1.1.1.1.1.1.0 ∙ moved file (e + 4 + 2 + 2 + 12 + 2 + 2 + 2 + (90 + wider_by format)) (e + 116 + wider_by format) 4 (omega arith);
      rva = says.1.1.1.1.1.1.1.1.1.1.0 ∙ moved file (e + 4 + 2 + 2 + 12 + 2 + 2 + 2 + (90 + wider_by format) + 4 + 112) (e + 232 + wider_by format) 4 (omega arith);
      bytes = says.1.1.1.1.1.1.1.1.1.1.1.0 ∙ moved file (e + 4 + 2 + 2 + 12 + 2 + 2 + 2 + (90 + wider_by format) + 4 + 112 + 4) (e + 232 + wider_by format + 4) 4 (omega arith);
      tail = subst Said (omega arith) says.1.1.1.1.1.1.1.1.1.1.1.1.1;
    }

headers_said : (file : List ℕ) (e : ℕ) (format : Format) (count left : ℕ) (directory : ℕ × ℕ) (sections : List SectionHeader)
    → HeadersSay file e format count left directory sections
    → AllSay file e (literal pe_signature ∷ file_header (length sections) (216 + wider_by format + left) ++ optional_header format count directory left ++ flat_map section_header sections)
headers_said file e format count left directory sections h =
    let Said : ℕ → Type 0 = λ p. AllSay file p (flat_map section_header sections) in
    let tail : Said (e + 4 + 2 + 2 + 12 + 2 + 2 + 2 + (90 + wider_by format) + 4 + 112 + 4 + 4 + left) = subst Said (omega arith) h.tail in (
      h.signature,
      (
        tt,
        (
          h.sections_count ∙ moved file (e + 6) (e + 4 + 2) 2 (omega arith),
          (
            tt,
            (
              h.size ∙ moved file (e + 20) (e + 4 + 2 + 2 + 12) 2 (omega arith),
              (
                tt,
                (
                  h.magic_is ∙ moved file (e + 24) (e + 4 + 2 + 2 + 12 + 2 + 2) 2 (omega arith),
                  (
                    tt,
                    (
                      h.count_is ∙ moved file (e + 116 + wider_by format) (e + 4 + 2 + 2 + 12 + 2 + 2 + 2 + (90 + wider_by format)) 4 (omega arith),
                      (
                        tt,
                        (
                          h.rva ∙ moved file (e + 232 + wider_by format) (e + 4 + 2 + 2 + 12 + 2 + 2 + 2 + (90 + wider_by format) + 4 + 112) 4 (omega arith),
                          (
                            h.bytes ∙ moved file (e + 232 + wider_by format + 4) (e + 4 + 2 + 2 + 12 + 2 + 2 + 2 + (90 + wider_by format) + 4 + 112 + 4) 4 (omega arith),
                            (tt, tail),
                          ),
                        ),
                      ),
                    ),
                  ),
                ),
              ),
            ),
          ),
        ),
      ),
    )

-- there is room for the headers
headers_room : (file : List ℕ) (e : ℕ) (format : Format) (count left : ℕ) (directory : ℕ × ℕ) (sections : List SectionHeader)
    → e + widths (literal pe_signature ∷ file_header (length sections) (216 + wider_by format + left) ++ optional_header format count directory left ++ flat_map section_header sections)
    ≡ e + 24 + (216 + wider_by format + left) + 40 * length sections
headers_room file e format count left directory sections = let more = widths-sections sections in omega arith

-- Magic decides how much longer the fields before the data directories are
wider_is : (file : List ℕ) (format : Format) → magic_of format ≡ magic file → wider file ≡ wider_by format
wider_is file pe32 e = rw (← e) refl
wider_is file pe32_plus e = rw (← e) refl

-- the image in a file of a format
stands : (known : FieldsAreParts) (file : List ℕ) (format : Format) → magic_of format ≡ magic file → 216 + wider_by format ≤ optional_header_size file → AllHold (rules_of_image file) → IsImage file (image_of file)
stands known file format form room all =
    let e : ℕ = lfanew file in
    let left : ℕ = optional_header_size file - (216 + wider_by format) in
    let wide : wider file ≡ wider_by format = wider_is file format form in
    let full : 216 + wider_by format + left ≡ optional_header_size file = omega arith in
    let count_long : length (sections_from file (sections_offset file) (section_count file)) ≡ section_count file = length-sections_from file (sections_offset file) (section_count file) in
    let Said : ℕ → Type 0 = λ p. AllSay file p (flat_map section_header (sections_from file (sections_offset file) (section_count file))) in
    let within : sections_offset file + 40 * section_count file ≤ length file = all.1.1.1.1.1.1.1.0 in
    let long : 64 ≤ length file = all.1.0.0 in
    let headers : HeadersSay file e format (directory_count file) left (image_of file).cli_directory (sections_from file (sections_offset file) (section_count file)) = record {
      signature = all.1.1.0.1;
      sections_count = count_long;
      size = full;
      magic_is = form;
      count_is = moved file (e + 116 + wider file) (e + 116 + wider_by format) 4 (omega arith);
      rva = moved file (directory_offset file) (e + 232 + wider_by format) 4 (omega arith);
      bytes = moved file (directory_offset file + 4) (e + 232 + wider_by format + 4) 4 (omega arith);
      tail = subst Said (ap (λ (z : ℕ). e + 24 + z) (sym full)) (sections_said file (sections_offset file) (section_count file));
    } in
    record {
      lfanew = e;
      format = format;
      directory_count = directory_count file;
      left = left;
      small = all.0;
      dos = known.stand file 0 (dos_header e) long (all.1.0.1, (tt, (refl, tt)));
      headers = known.stand file e _
          (let room = headers_room file e format (directory_count file) left (image_of file).cli_directory (sections_from file (sections_offset file) (section_count file)) in omega arith)
          (headers_said file e format (directory_count file) left (image_of file).cli_directory (sections_from file (sections_offset file) (section_count file)) headers);
      directories = all.1.1.1.1.1.1.0;
      bytes_are = refl;
      offset_is = ap (λ (w : ℕ). e + 232 + w) wide;
    }

-- a file that satisfies all rules is an image
pub image_from_rules : (known : FieldsAreParts) (file : List ℕ) → AllHold (rules_of_image file) → IsImage file (image_of file)
image_from_rules known file all = elim all.1.1.1.1.1.0 [
  | inl plain ↦ stands known file pe32 (sym plain) all.1.1.1.0.0 all
  | inr plus ↦ stands known file pe32_plus (sym plus) (all.1.1.1.1.0 plus) all
]

same_image : (a b : Image) → a.bytes ≡ b.bytes → a.cli_directory.0 ≡ b.cli_directory.0 → a.cli_directory.1 ≡ b.cli_directory.1 → a.cli_directory_offset ≡ b.cli_directory_offset → a.sections ≡ b.sections → a ≡ b
same_image a b bytes rva size offset sections =
    let make : List ℕ → ℕ → ℕ → ℕ → List SectionHeader → Image = λ f r s p l. record { bytes = f; cli_directory = (r, s); cli_directory_offset = p; sections = l } in
    ap (λ (f : List ℕ). make f a.cli_directory.0 a.cli_directory.1 a.cli_directory_offset a.sections) bytes
    ∙ ap (λ (r : ℕ). make b.bytes r a.cli_directory.1 a.cli_directory_offset a.sections) rva
    ∙ ap (λ (s : ℕ). make b.bytes b.cli_directory.0 s a.cli_directory_offset a.sections) size
    ∙ ap (λ (p : ℕ). make b.bytes b.cli_directory.0 b.cli_directory.1 p a.sections) offset
    ∙ ap (make b.bytes b.cli_directory.0 b.cli_directory.1 b.cli_directory_offset) sections

-- an image satisfies all rules and has the values of its headers
pub record Meets (file : List ℕ) (image : Image) : Type 0 where
  pub all : AllHold (rules_of_image file)
  pub is : image ≡ image_of file

magic_cases : (file : List ℕ) (format : Format) → magic_of format ≡ magic file → 216 + wider_by format ≤ optional_header_size file
    → (magic file ≡ 0x20B → 232 ≤ optional_header_size file) × ((magic file ≡ 0x10B) ⊎ (magic file ≡ 0x20B))
magic_cases file pe32 e room = ((λ plus. absurd (omega arith)), inl (sym e))
magic_cases file pe32_plus e room = ((λ plus. room), inr (sym e))

pub image_meets : (known : FieldsAreParts) (file : List ℕ) (image : Image) → IsImage file image → Meets file image
image_meets known file image h =
    let fields : List Field = literal pe_signature ∷ file_header (length image.sections) (216 + wider_by h.format + h.left) ++ optional_header h.format h.directory_count image.cli_directory h.left ++ flat_map section_header image.sections in
    let dos = known.said file 0 (dos_header h.lfanew) h.dos in
    let stood = known.said file h.lfanew fields h.headers in
    let at : h.lfanew ≡ lfanew file = dos.0.1.1.0 in
    let Say : ℕ → Type 0 = λ e. HeadersSay file e h.format h.directory_count h.left image.cli_directory image.sections in
    let says = subst Say at (headers_say file h.lfanew h.format h.directory_count h.left image.cli_directory image.sections stood.0) in
    let room = headers_room file h.lfanew h.format h.directory_count h.left image.cli_directory image.sections in
    let within = stood.1 in
    let wide : wider file ≡ wider_by h.format = wider_is file h.format says.magic_is in
    let long : 64 ≤ length file = dos.1 in
    let size = says.size in
    let cases = magic_cases file h.format says.magic_is (omega arith) in
    let count : h.directory_count ≡ directory_count file = says.count_is ∙ moved file (lfanew file + 116 + wider_by h.format) (lfanew file + 116 + wider file) 4 (omega arith) in
    let enough = h.directories in
    let sections_long : length image.sections ≡ section_count file = says.sections_count in
    let offset = h.offset_is in
    record {
      all = (
        h.small,
        ((long, dos.0.0), ((omega arith, says.signature), ((omega arith, omega arith), (cases.0, (cases.1, (omega arith, (omega arith, tt))))))),
      );
      is = same_image image (image_of file) h.bytes_are
          (says.rva ∙ moved file (lfanew file + 232 + wider_by h.format) (directory_offset file) 4 (omega arith))
          (says.bytes ∙ moved file (lfanew file + 232 + wider_by h.format + 4) (directory_offset file + 4) 4 (omega arith))
          (omega arith)
          (sections_say file _ image.sections says.tail
          ∙ ap (λ (z : ℕ). sections_from file (lfanew file + 24 + z) (length image.sections)) says.size
          ∙ ap (sections_from file (sections_offset file)) sections_long);
    }

-- what the relation says of a result that reports the rules
pub reports_found : (file : List ℕ) (r : Result Image Fault) → Reports (rules_of_image file) r → IfOk r (λ image. image ≡ image_of file)
    → (AllHold (rules_of_image file) → IsImage file (image_of file)) → IfOk r (λ image. IsImage file image)
reports_found file (Ok image) all is found =
    let P : Image → Type 0 = λ i. IsImage file i in
    subst P (sym is) (found all)
reports_found file (Err fault) fails is found = tt

pub reports_only : (file : List ℕ) (image : Image) (r : Result Image Fault) → Reports (rules_of_image file) r → IfOk r (λ found. found ≡ image_of file)
    → AllHold (rules_of_image file) → image ≡ image_of file → IsOkAnd r (λ found. found ≡ image)
reports_only file image (Ok found) all is meets said = is ∙ sym said
reports_only file image (Err found) fails is meets said = absurd (none_fails (rules_of_image file) found meets fails)

pub reports_all : (file : List ℕ) (result : Result Image Fault) → Reports (rules_of_image file) result → IfOk result (λ image. image ≡ image_of file)
    → IfOk result (λ image. AllHold (rules_of_image file) × (image ≡ image_of file))
reports_all file (Ok image) reports is = (reports, is)
reports_all file (Err fault) reports is = tt

pub reports_first : (file : List ℕ) (result : Result Image Fault) → Reports (rules_of_image file) result → IfErr result (FirstBroken (rules_of_image file))
reports_first file (Ok image) reports = tt
reports_first file (Err fault) reports = reports
