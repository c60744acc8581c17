-- What the fields of `Headers` mean, and their invariant.
use Rattle.std.specs.Prelude.{◌≡◌, ◌<◌, ◌≤◌, ◌^◌}
use Rattle.packed.specs.Rule.{AllHold}
use Rattle.pe.specs.Headers.{lfanew, wider, section_count, sections_offset}
use Rattle.pe.specs.Rules.{rules_of_image}
use Rattle.file_ranges.specs.declared.headers.Headers.TheInside.{Inside}

-- the file is an image, and the fields have the values of its headers
pub record AreRead (headers : Inside) : Type 0 where
  pub rules : AllHold (rules_of_image headers.file.now)
  pub lfanew : headers.lfanew ≡ lfanew headers.file.now
  pub wider : headers.wider ≡ wider headers.file.now
  pub sections : headers.sections_offset ≡ sections_offset headers.file.now
  pub count : headers.section_count ≡ section_count headers.file.now
  pub few : headers.section_count < 2 ^ 16
  pub narrow : headers.wider ≤ 16
