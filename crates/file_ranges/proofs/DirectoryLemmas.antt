-- A file has one resources directory at most.
use Rattle.file_ranges.proofs.Prelude.{◌≡◌, ◌≤◌, ℕ, ◌+◌, List, ◌∙◌, length, ap, sym, Field, StandAt, AllSay, widths, part, image_of, Image, IsImage, offset_at, CliHeader, IsDirectory}

module _ (file : List ℕ) (header : CliHeader)
    (is_one : (image : Image) → IsImage file image → image ≡ image_of file)
    (said : (whole : List ℕ) (offset : ℕ) (fields : List Field) → StandAt whole offset fields → AllSay whole offset fields × (offset + widths fields ≤ length whole)) where
  pub start_one : (start other : ℕ) (bytes more : List ℕ) → IsDirectory file header start bytes → IsDirectory file header other more → start ≡ other
  start_one start other bytes more is also =
      let first = is.named.first in
      let second = also.named.first in
      let images = is_one is.image is.is_image ∙ sym (is_one also.image also.is_image) in
      cc (ap (λ (image : Image). offset_at image header.resources.rva header.resources.size) images)

  pub bytes_one : (start other : ℕ) (bytes more : List ℕ) → IsDirectory file header start bytes → IsDirectory file header other more → bytes ≡ more
  bytes_one start other bytes more is also =
      let long = is.long ∙ sym also.long in
      let same = start_one start other bytes more is also in
      sym (said _ _ _ is.bytes_are).0.0 ∙ (λ i. part file (same i) (long i)) ∙ (said _ _ _ also.bytes_are).0.0
