-- A file has a model if and only if all rules for it hold. It has at most one.
use Rattle.metadata.proofs.Prelude.{◌≡◌, ℕ, ◌-◌, ◌^◌, ◌<◌, false, List, ◌++◌, slice_index, sym, ◌∙◌, subst, arith, inl, inr, AllHold, all_append, all_prefix, all_back, TableId, Metadata, count_in, rows_in, root_in, IsModel, IsEntryPoint, has_native_entry_point, IsModelOfFile, source_of, rules_of_metadata, rules_of_entry_point, rules_of_file}
use Rattle.pe.specs.Image as pe
use Rattle.pe.specs.Image.{Image}
use Rattle.pe.specs.Headers.{image_of}
use Rattle.pe.specs.Rules.{rules_of_image}
use Rattle.cli_header.specs.declared.header.CliHeader.{CliHeader}
use Rattle.cli_header.specs.Header.{IsCliHeader}
use Rattle.cli_header.specs.Said.{header_of}
use Rattle.cli_header.specs.Rules.{rules_of_cli_header}
use Rattle.metadata.proofs.ModelLemmas.{part_bytes}

-- what is known of images, CLI headers and roots
pub record AreRead : Type 0 where
  pub image_rules_hold : (file : List ℕ) (image : Image) → pe.IsImage file image → AllHold (rules_of_image file)
  pub image_said : (file : List ℕ) (image : Image) → pe.IsImage file image → image ≡ image_of file
  pub image_found : (file : List ℕ) → AllHold (rules_of_image file) → pe.IsImage file (image_of file)
  pub header_rules_hold : (image : Image) (header : CliHeader) → IsCliHeader image header → AllHold (rules_of_cli_header image)
  pub header_said : (image : Image) (header : CliHeader) → IsCliHeader image header → header ≡ header_of image
  pub header_found : (image : Image) → AllHold (rules_of_cli_header image) → IsCliHeader image (header_of image)
  pub met : (offset : ℕ) (root : List ℕ) (model : Metadata) → IsModel root model → AllHold (rules_of_metadata offset root)
  pub found : (offset : ℕ) (root : List ℕ) → ((k : ℕ) → slice_index root k < 2 ^ 8) → AllHold (rules_of_metadata offset root)
      → (model : Metadata) × IsModel root model
  pub one : (root : List ℕ) (model other : Metadata) → IsModel root model → IsModel root other → model ≡ other
  pub count : (root : List ℕ) (model : Metadata) → IsModel root model → (table : TableId) → count_in model table ≡ rows_in (source_of root) table

-- the same row counts have the same entry points
entry_same : (entry : ℕ) (count other : TableId → ℕ) → ((table : TableId) → count table ≡ other table) → IsEntryPoint entry count → IsEntryPoint entry other
entry_same entry count other same (inl none) = inl none
entry_same entry count other same (inr there) = let e = same there.0.table in inr (there.0, there.1, there.2, there.3, omega (arith, there.4, e))

module _ (read : AreRead) (file : List ℕ) (header : CliHeader) (model : Metadata) (is : IsModelOfFile file header model) where
  image_read : is.image ≡ image_of file
  image_read = read.image_said file is.image is.is_image

  header_stands : IsCliHeader (image_of file) header
  header_stands = subst (λ (i : Image). IsCliHeader i header) image_read is.is_header

  pub header_read : header ≡ header_of (image_of file)
  header_read = read.header_said (image_of file) header header_stands

  pub root_read : IsModel (root_in file (header_of (image_of file))) model
  root_read = subst (λ (h : CliHeader). IsModel (root_in file h) model) header_read is.root

  entry_read : has_native_entry_point (header_of (image_of file)) ≡ false → IsEntryPoint (header_of (image_of file)).entry_point_token (count_in model)
  entry_read = subst (λ (h : CliHeader). has_native_entry_point h ≡ false → IsEntryPoint h.entry_point_token (count_in model)) header_read is.entry

  pub file_met : AllHold (rules_of_file file)
  unfolding rules_of_file rules_of_entry_point
  file_met =
      let said = header_of (image_of file) in
      let root = root_in file said in
      let source = source_of root in
      let entry = rules_of_entry_point said source in
      let inside = rules_of_metadata said.root.start root in
      all_append (rules_of_image file) (rules_of_cli_header (image_of file) ++ (inside ++ entry)) (read.image_rules_hold file is.image is.is_image)
      (all_append (rules_of_cli_header (image_of file)) (inside ++ entry) (read.header_rules_hold (image_of file) header header_stands)
      (all_append inside entry (read.met said.root.start root model root_read)
      (λ managed. entry_same said.entry_point_token (count_in model) (rows_in source) (read.count root model root_read) (entry_read managed), tt)))

pub file_found : AreRead → (file : List ℕ) → ((k : ℕ) → slice_index file k < 2 ^ 8) → AllHold (rules_of_file file)
    → (header : CliHeader) × (model : Metadata) × IsModelOfFile file header model
unfolding rules_of_file rules_of_entry_point
file_found read file each holds =
    let said = header_of (image_of file) in
    let root = root_in file said in
    let source = source_of root in
    let entry = rules_of_entry_point said source in
    let inside = rules_of_metadata said.root.start root in
    let behind = all_back (rules_of_image file) (rules_of_cli_header (image_of file) ++ (inside ++ entry)) holds in
    let more = all_back (rules_of_cli_header (image_of file)) (inside ++ entry) behind in
    let last = all_back inside entry more in
    let model = read.found said.root.start root (part_bytes file said.root.start (said.root.«end» - said.root.start) each) (all_prefix inside entry more) in
    let counted = read.count root model.0 model.1 in (
      said,
      model.0,
      record {
        image = image_of file;
        is_image = read.image_found file (all_prefix (rules_of_image file) (rules_of_cli_header (image_of file) ++ (inside ++ entry)) holds);
        is_header = read.header_found (image_of file) (all_prefix (rules_of_cli_header (image_of file)) (inside ++ entry) behind);
        root = model.1;
        entry = λ managed. entry_same said.entry_point_token (rows_in source) (count_in model.0) (λ table. sym (counted table)) (last.0 managed);
      },
    )

pub file_one : AreRead → (file : List ℕ) (header other : CliHeader) (model more : Metadata) → IsModelOfFile file header model → IsModelOfFile file other more
    → (header ≡ other) × (model ≡ more)
file_one read file header other model more is also = (
  header_read read file header model is ∙ sym (header_read read file other more also),
  read.one (root_in file (header_of (image_of file))) model more (root_read read file header model is) (root_read read file other more also),
)
