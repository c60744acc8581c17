-- Where a resource is, by what was found of the directory and of its row.
use Rattle.file_ranges.proofs.Prelude.{◌≡◌, ◌≤◌, ℕ, ◌+◌, List, Option, Some, None, length, arith, Field, StandAt, AllSay, widths, image_of, Image, IsImage, CliHeader, ManifestResource, Metadata, cell_in, IsContent, IsDirectory, IsLocation, IsStored, Where, here, elsewhere, Directory}
use Rattle.std.specs.Prelude.{IfSome, IsSomeAnd}
use Rattle.table_schema.specs.declared.token.Token.{Token}
use Rattle.metadata.specs.Cell.{Number, Ref}
use Rattle.file_ranges.specs.declared.directory.Content.{Content}
use Rattle.file_ranges.proofs.DirectoryLemmas.{bytes_one, start_one}

-- ---- contents of the directory of a file

module _ (file : List ℕ) (header : CliHeader) (relative : ℕ) (of : Directory) (is : IsDirectory file header of.start of.bytes.now) where
  pub stored_found : (r : Option Content) → IfSome r (λ found. IsContent of.bytes.now relative found.bytes.now) → IfSome r (λ found. found.offset ≡ of.start + relative + 4)
      → IfSome r (λ found. IsStored file header relative found.offset found.bytes.now)
  stored_found None sound offset = tt
  stored_found (Some found) sound offset = record {
    start = of.start;
    directory = of.bytes.now;
    is_directory = is;
    is_content = sound;
    is_offset = offset;
  }

  module _ (is_one : (image : Image) → IsImage file image → image ≡ image_of file)
      (said : (whole : List ℕ) (offset : ℕ) (fields : List Field) → StandAt whole offset fields → AllSay whole offset fields × (offset + widths fields ≤ length whole))
      (offset : ℕ) (content : List ℕ) (stored : IsStored file header relative offset content) where
    content_there : IsContent of.bytes.now relative content
    content_there = rw (bytes_one file header is_one said _ _ _ _ stored.is_directory is) at stored.is_content

    pub stored_only : (r : Option Content) → ((content : List ℕ) → IsContent of.bytes.now relative content → IsSomeAnd r (λ found. found.bytes.now ≡ content))
        → IfSome r (λ found. found.offset ≡ of.start + relative + 4) → IsSomeAnd r (λ found. (found.offset ≡ offset) × (found.bytes.now ≡ content))
    stored_only None complete found_at = complete content content_there
    stored_only (Some found) complete found_at =
        let same = start_one file header is_one said _ _ _ _ stored.is_directory is in
        let at = stored.is_offset in
        (omega arith, complete content content_there)

-- ---- rows

module _ (file : List ℕ) (header : CliHeader) (model : Metadata) (row : ℕ) where
  pub only_elsewhere : (of : Token) → cell_in model ManifestResource row 3 ≡ Ref (Some of) → (location : Where) → IsLocation file header model row location → elsewhere of ≡ location
  only_elsewhere of cell (here offset content) is = let own = is.0 in absurd cc
  only_elsewhere of cell (elsewhere other) is = cc

  module _ (relative : ℕ) (own : cell_in model ManifestResource row 3 ≡ Ref None) (from : cell_in model ManifestResource row 0 ≡ Number relative) where
    pub only_here : (offset : ℕ) (content : List ℕ)
        → ((at : ℕ) (other : List ℕ) → IsStored file header relative at other → (offset ≡ at) × (content ≡ other))
        → (location : Where) → IsLocation file header model row location → here offset content ≡ location
    only_here offset content only (here at other) is =
        let cell = is.2 in
        let same : is.1 ≡ relative = cc in
        let both = only at other (rw same at is.3) in
        (λ i. here (both.0 i) (both.1 i))
    only_here offset content only (elsewhere of) is = absurd cc

    pub nowhere : ((at : ℕ) (other : List ℕ) → IsStored file header relative at other → ⊥) → (location : Where) → ¬ IsLocation file header model row location
    nowhere none (here at other) is =
        let cell = is.2 in
        let same : is.1 ≡ relative = cc in
        none at other (rw same at is.3)
    nowhere none (elsewhere of) is = absurd cc
