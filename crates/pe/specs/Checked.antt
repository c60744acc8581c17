-- What the fields of a `Pe` mean, and their invariant.
use Rattle.std.specs.Prelude.{◌≡◌, ◌+◌, ◌*◌, ◌≤◌, length}
use Rattle.packed.specs.Limit.{byte_limit}
use Rattle.pe.specs.declared.image.Pe.TheInside.{Inside}
use Rattle.pe.specs.Headers.{directory_offset, section_count, sections_offset, image_of}
use Rattle.pe.specs.Image.{Image}

abbrev pub shown_image : Inside → Image
shown_image pe = image_of pe.bytes.now

-- the fields have the offsets that the headers give, and the directory and the section headers end within the file
pub record IsChecked (pe : Inside) : Type 0 where
  pub small : length pe.bytes.now ≤ byte_limit
  pub directory : pe.cli_directory_offset ≡ directory_offset pe.bytes.now
  pub directory_within : pe.cli_directory_offset + 8 ≤ length pe.bytes.now
  pub sections : pe.sections_offset ≡ sections_offset pe.bytes.now
  pub count : pe.section_count ≡ section_count pe.bytes.now
  pub sections_within : pe.sections_offset + 40 * pe.section_count ≤ length pe.bytes.now
