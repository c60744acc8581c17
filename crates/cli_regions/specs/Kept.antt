-- What a program keeps while it looks for the structures that contain a byte.
use Rattle.std.specs.Prelude.{◌≡◌, ℕ, ◌+◌, ◌*◌, ◌≤◌, Bool, true, false, Option, None, Some, List, [], ◌++◌, codes, length}
use Rattle.root.specs.Streams.{Header}
use Rattle.pe.specs.Headers.{lfanew, optional_header_size, section_count, sections_offset}
use Rattle.cli_faults.specs.Escaped.{escaped_text}
use Rattle.cli_regions.specs.Headers.{other_stream_regions, stream_header_regions, table_words}
use Rattle.cli_regions.specs.Files.{numbered, section_header_regions, section_regions}
use Rattle.cli_regions.specs.Regions.{Region, What as TheWhat, cell, entry, regions_at, scalar, user_string, words}
use Rattle.cli_regions.specs.declared.searches.Part.{Part}
use Rattle.cli_regions.specs.declared.searches.Part.TheVariants as part
use Rattle.cli_regions.specs.declared.searches.Name.{Name}
use Rattle.cli_regions.specs.declared.searches.Name.TheVariants.{Empty, Plain, Text, Section, Table}
use Rattle.cli_regions.specs.declared.searches.Structure.{Structure}
use Rattle.cli_regions.specs.declared.searches.What.{What}
use Rattle.cli_regions.specs.declared.searches.What.TheVariants as what

-- a name after a space, and nothing for an empty one
abbrev pub name_text : Name → List ℕ
name_text Empty = []
name_text (Plain name) = codes " " ++ name.now
name_text (Text name) = codes " " ++ escaped_text name.now
name_text (Section number name) = numbered number name.now
name_text (Table table) = codes " " ++ table_words table

abbrev pub seen_what : What → TheWhat
seen_what (what.Words word name) = words (word.now ++ name_text name)
seen_what (what.Scalar word name) = scalar (word.now ++ name_text name)
seen_what (what.Cell of) = cell of
seen_what (what.Entry heap of) = entry heap of
seen_what (what.UserString token) = user_string token

-- the structure that a program keeps: without the addresses of its texts
abbrev pub seen : Structure → Region
seen of = record { start = of.start; size = of.size; what = seen_what of.what }

-- a search: the offset of the byte, and the structures that were found, unless memory ran out
pub record Searched : Type 0 where
  pub offset : ℕ
  pub found : Option (List Region)

abbrev pub found_unless : Bool → List Region → Option (List Region)
found_unless true found = None
found_unless false found = Some found

-- a search kept these structures, too, or memory ran out
pub record Joins (old new : Searched) (later : List Region) : Type 0 where
  pub offset : new.offset ≡ old.offset
  pub found : (found : List Region) → new.found ≡ Some found → (before : List Region) × (old.found ≡ Some before) × (found ≡ before ++ later)

-- a search looked at these structures, too
pub record Adds (old new : Searched) (regions : List Region) : Type 0 where
  pub joins : Joins old new (regions_at old.offset regions)

-- a search kept structures of this kind, too, or memory ran out
pub record Finds (AreFound : ℕ → List Region → Type 0) (old new : Searched) : Type 0 where
  pub offset : new.offset ≡ old.offset
  pub found : (found : List Region) → new.found ≡ Some found
      → (before : List Region) × (old.found ≡ Some before) × (later : List Region) × AreFound old.offset later × (found ≡ before ++ later)

-- the headers of a file end within it (II.25.2 and II.25.3)
pub record HasHeaders (file : List ℕ) : Type 0 where
  pub small : length file ≤ 0x40000000
  pub dos : 64 ≤ length file
  pub optional : lfanew file + 24 + optional_header_size file ≤ length file
  pub room : 216 ≤ optional_header_size file
  pub sections : sections_offset file + 40 * section_count file ≤ length file

-- a section header with its fields, or a section
abbrev pub part_regions : Part → List ℕ → ℕ → List Region
part_regions part.Header = section_header_regions
part_regions part.Bytes = section_regions

-- a stream header with its fields, or a stream whose name is not one of the standard, in a root of `size` bytes
abbrev pub stream_part_regions : Part → ℕ → ℕ → Header → List Region
stream_part_regions part.Header start size = stream_header_regions start
stream_part_regions part.Bytes start size = other_stream_regions start size
