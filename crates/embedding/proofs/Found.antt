-- A result opens, and its model is that of the root.
use Rattle.embedding.proofs.Prelude.{◌≡◌, ℕ, ◌+◌, ◌^◌, ◌<◌, ◌≤◌, ◌==◌, inl, inr, false, List, [], ◌∷◌, length, take, drop, refl, sym, ap, subst, ◌∙◌, arith, ∥∥₁_map, little_endian, part, AllHold, image_of, Image, IsImage, rules_of_image, CliHeader, fields_of, IsCliHeader, rules_of_cli_header, header_of, TableId, MethodDef, File, Metadata, count_in, IsModel, IsModelOfFile, IsEntryPoint, has_native_entry_point, Source, rows_in, source_of, root_in, row_count, IsBytes, part_fits, Slot, StrongName, Keep, Clear, IsHeaderOf, AreHeadersApart, IsEmbedded, HasItsModel, embedded, new_header, unsigned_flags, LeadsAlike, target_of, FitsAt}
use Rattle.packed.specs.Fields.{Field, literal, number, ignored, StandAt, AllSay, widths}
use Rattle.embedding.proofs.EntryPoint.{known_entry_point, entry_point_kept}
use Rattle.embedding.proofs.NewImage.{NewImage, new_image}
use Rattle.embedding.proofs.Room.{room}
use Rattle.embedding.proofs.Sections.{offset_in}
use Rattle.embedding.proofs.Written.{begins_with, length-embedded, root_there, kept, read, metadata_set, name_set}

-- fields in bytes that are the same have the same values
say_kept : (file result : List ℕ) (low high : ℕ) → ((at count : ℕ) → low ≤ at → at + count ≤ high → part result at count ≡ part file at count)
    → (fields : List Field) (offset : ℕ) → low ≤ offset → offset + widths fields ≤ high → AllSay file offset fields → AllSay result offset fields
say_kept file result low high kept [] offset begins stops says = tt
say_kept file result low high kept (literal expected ∷ fields) offset begins stops says =
    (kept offset (length expected) begins (omega arith) ∙ says.0, say_kept file result low high kept fields (offset + length expected) (omega arith) (omega arith) says.1)
say_kept file result low high kept (number count value ∷ fields) offset begins stops says =
    (says.0 ∙ ap little_endian (sym (kept offset count begins (omega arith))), say_kept file result low high kept fields (offset + count) (omega arith) (omega arith) says.1)
say_kept file result low high kept (ignored count ∷ fields) offset begins stops says =
    (tt, say_kept file result low high kept fields (offset + count) (omega arith) (omega arith) says.1)

-- the fields of the new header are those of the old one, or written
header_says : (name : StrongName) (file root : List ℕ) (header : CliHeader) (source : Source) (slot : Slot) → IsHeaderOf file header → AreHeadersApart file header
    → FitsAt file (length root) header source slot → header.flags < 2 ^ 32 → AllSay file header.place (fields_of header)
    → let target = target_of file header (length root) slot in
    AllSay (embedded name file root header slot) header.place (fields_of (new_header name header root target.address target.start))
header_says Keep file root header source slot of apart fits flags says =
    let result = embedded Keep file root header slot in
    let p = header.place in
    let r = room file header root source slot of apart fits in
    let begins = (begins_with root header slot).0 in
    let stays = kept Keep file root header source slot of apart fits in
    let is_read = read Keep file root header source slot of apart fits in
    let sets = metadata_set Keep file root header slot of apart in
    let first = say_kept file result p (p + 8) (λ at count begins stops. stays at count (inr (inr (inl (begins, stops)))))
    (take 3 (fields_of header)) p (omega arith) (omega arith) (says.0, (says.1.0, (says.1.1.0, tt))) in
    let rva = is_read (p + 4 + 2 + 2) (p + 8) _ sets.0 fits.address (omega arith) (λ h. omega arith) (λ h. (omega arith, omega arith)) in
    let size = is_read (p + 4 + 2 + 2 + 4) (p + 12) (length root) sets.1 (omega arith) (omega arith) (λ h. omega arith) (λ h. (omega arith, omega arith)) in
    let later = say_kept file result (p + 16) (p + 72) (λ at count begins stops. stays at count (inr (inr (inr (begins, stops)))))
    (drop 5 (fields_of header)) (p + 4 + 2 + 2 + 4 + 4) (omega arith) (omega arith) says.1.1.1.1.1 in
    (first.0, (first.1.0, (first.1.1.0, (rva, (size, later)))))
header_says Clear file root header source slot of apart fits flags says =
    let result = embedded Clear file root header slot in
    let p = header.place in
    let r = room file header root source slot of apart fits in
    let begins = (begins_with root header slot).0 in
    let stays = kept Clear file root header source slot of apart fits in
    let is_read = read Clear file root header source slot of apart fits in
    let sets = metadata_set Clear file root header slot of apart in
    let cleared = name_set file root header slot of apart in
    let fewer : unsigned_flags header.flags ≤ header.flags = omega arith in
    let old = says.1.1.1.1.1 in
    let first = say_kept file result p (p + 8) (λ at count begins stops. stays at count (inr (inr (inl (begins, stops)))))
    (take 3 (fields_of header)) p (omega arith) (omega arith) (says.0, (says.1.0, (says.1.1.0, tt))) in
    let rva = is_read (p + 4 + 2 + 2) (p + 8) _ sets.0 fits.address (omega arith) (λ h. omega arith) (λ h. (omega arith, omega arith)) in
    let size = is_read (p + 4 + 2 + 2 + 4) (p + 12) (length root) sets.1 (omega arith) (omega arith) (λ h. omega arith) (λ h. (omega arith, omega arith)) in
    let unsigned = is_read (p + 4 + 2 + 2 + 4 + 4) (p + 16) _ cleared.0 (omega arith) (omega arith) (λ h. omega arith) (λ h. (omega arith, omega arith)) in
    let middle = say_kept file result (p + 20) (p + 32) (λ at count begins stops. stays at count (inr (inr (inr (inl (begins, stops))))))
    (take 3 (drop 6 (fields_of header))) (p + 4 + 2 + 2 + 4 + 4 + 4) (omega arith) (omega arith) (old.1.0, (old.1.1.0, (old.1.1.1.0, tt))) in
    let no_rva = is_read (p + 4 + 2 + 2 + 4 + 4 + 4 + 4 + 4 + 4) (p + 32) 0 cleared.1 (omega arith) (omega arith) (λ h. omega arith) (λ h. (omega arith, omega arith)) in
    let no_size = is_read (p + 4 + 2 + 2 + 4 + 4 + 4 + 4 + 4 + 4 + 4) (p + 36) 0 cleared.2 (omega arith) (omega arith) (λ h. omega arith) (λ h. (omega arith, omega arith)) in
    let last = say_kept file result (p + 40) (p + 72) (λ at count begins stops. stays at count (inr (inr (inr (inr (begins, stops))))))
    (drop 11 (fields_of header)) (p + 4 + 2 + 2 + 4 + 4 + 4 + 4 + 4 + 4 + 4 + 4) (omega arith) (omega arith) old.1.1.1.1.1.1 in
    (first.0, (first.1.0, (first.1.1.0, (rva, (size, (unsigned, (middle.0, (middle.1.0, (middle.1.1.0, (no_rva, (no_size, last)))))))))))

-- laws of the crates below
pub record Laws : Type 0 where
  pub said : (whole : List ℕ) (offset : ℕ) (fields : List Field) → StandAt whole offset fields → AllSay whole offset fields × (offset + widths fields ≤ length whole)
  pub stand : (whole : List ℕ) (offset : ℕ) (fields : List Field) → offset + widths fields ≤ length whole → AllSay whole offset fields → StandAt whole offset fields
  pub images : (file : List ℕ) → AllHold (rules_of_image file) → IsImage file (image_of file)
  pub headers : (image : Image) → AllHold (rules_of_cli_header image) → IsCliHeader image (header_of image)
  pub counts : (root : List ℕ) (model : Metadata) → IsModel root model → (table : TableId) → count_in model table ≡ rows_in (source_of root) table

-- the flags say the same of the entry point
native_kept : (name : StrongName) (header : CliHeader) (root : List ℕ) (rva offset : ℕ) → has_native_entry_point (new_header name header root rva offset) ≡ has_native_entry_point header
native_kept Keep header root rva offset = refl
native_kept Clear header root rva offset = ap (λ (n : ℕ). n == 1) (omega arith)

entry_found : (laws : Laws) (name : StrongName) (file root : List ℕ) (header : CliHeader) (model : Metadata) (rva offset : ℕ) → IsHeaderOf file header
    → LeadsAlike root (root_in file header) → IsModel root model → has_native_entry_point (new_header name header root rva offset) ≡ false
    → IsEntryPoint header.entry_point_token (count_in model)
unfolding row_count
entry_found laws name file root header model rva offset of leads is none =
    known_entry_point header.entry_point_token (count_in model) (∥∥₁_map of.model (λ some.
    let old = laws.counts (root_in file header) some.0 some.1.root in
    let new = laws.counts root model is in
    entry_point_kept header.entry_point_token (count_in some.0) (count_in model)
    (omega (arith, old MethodDef, new MethodDef, leads.methods.rows)) (omega (arith, old File, new File, leads.files))
    (some.1.entry (sym (native_kept name header root rva offset) ∙ none))))

-- the result has a CLI header
new_cli_header : (laws : Laws) (name : StrongName) (file root : List ℕ) (header : CliHeader) (source : Source) (slot : Slot) → IsBytes file → (of : IsHeaderOf file header)
    → AreHeadersApart file header → FitsAt file (length root) header source slot
    → let target = target_of file header (length root) slot in let result = embedded name file root header slot in
    NewImage file root header slot result → IsCliHeader (image_of result) (new_header name header root target.address target.start)
new_cli_header laws name file root header source slot bytes of apart fits image =
    let target = target_of file header (length root) slot in
    let result = embedded name file root header slot in
    let r = room file header root source slot of apart fits in
    let long = length-embedded name file root header source slot of apart fits in
    let begins = (begins_with root header slot).0 in
    let old : IsCliHeader (image_of file) header = rw of.header_is (laws.headers (image_of file) of.cli_header) in
    let says = (laws.said file header.place (fields_of header) old.fields).0 in
    let flags : header.flags < 2 ^ 32 =
    omega (arith, says.1.1.1.1.1.0, part_fits file (header.place + 4 + 2 + 2 + 4 + 4) 4 bytes (omega (arith, of.header_within))) in
    record {
      named = (λ none. old.named.0 (sym image.rva ∙ none), λ none. old.named.1 (sym image.size ∙ none));
      long = omega (arith, old.long, image.size);
      place = record {
        first = ap (λ (n : ℕ). offset_in n 72 (image_of result).sections) image.rva ∙ image.parts.kept (image_of file).cli_directory.0 72 header.place old.place.first;
        within = omega (arith, long, r.longer, r.header_kept);
      };
      fields = laws.stand result header.place _ (omega (arith, long, r.longer, r.header_kept)) (header_says name file root header source slot of apart fits flags says);
      enough = old.enough;
      root = record { first = image.parts.found; within = omega (arith, long, r.root_within, begins) };
      root_end = refl;
    }

-- the result has this header and the model of the root
pub found : (laws : Laws) (name : StrongName) (file root result : List ℕ) (model : Metadata) → IsBytes file → IsEmbedded name file root result → IsModel root model
    → HasItsModel name file root result model
found laws name file root result model bytes it is =
    let header = it.header in
    let slot = it.slot in
    let of = it.opens in
    let source = source_of (root_in file header) in
    let target = target_of file header (length root) slot in
    let made = embedded name file root header slot in
    let image = new_image name file root header source slot bytes of it.apart it.fits in
    let header_there = new_cli_header laws name file root header source slot bytes of it.apart it.fits image in
    let there : root_in made (new_header name header root target.address target.start) ≡ root =
    ap (λ (n : ℕ). part made target.start n) (omega arith) ∙ root_there name file root header source slot of it.apart it.fits in
    let Has : List ℕ → CliHeader → Type 0 = λ (whole : List ℕ) (h : CliHeader). (rva : ℕ) × (offset : ℕ) × IsModelOfFile whole (new_header name h root rva offset) model in
    let all : Has made header = (
      target.address,
      target.start,
      record {
        image = image_of made;
        is_image = laws.images made image.rules;
        is_header = header_there;
        root = rw there is;
        entry = entry_found laws name file root header model target.address target.start of it.leads is;
      },
    ) in
    subst (Has result) of.header_is (subst (λ (whole : List ℕ). Has whole header) (sym it.bytes) all)
