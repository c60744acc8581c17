-- Structures as ranges of bytes of a file, those that contain a byte, and the fields of headers. The names and sizes of fields are the
-- tables of `src/fields.rt`.
use Rattle.std.specs.Prelude.{ℕ, ◌+◌, ◌-◌, ◌&&◌, Bool, nat_le, nat_lt, if◌then◌else◌, List, [], ◌∷◌, ◌++◌, codes, filter}
use Rattle.std.specs.Borrow.{Bor}
use Rattle.root.specs.declared.kind.Kind.{Kind}
use Rattle.schema.specs.declared.located_cells.TableCell.{TableCell}

-- what a structure is: words; words of a field that is one number; a cell; the entry of a heap that a cell refers to; or the user string with a token
pub data What : Type 0 where
  words : List ℕ → What
  scalar : List ℕ → What
  cell : TableCell → What
  entry : Kind → TableCell → What
  user_string : ℕ → What

-- a structure: the offset of its first byte in the file, its number of bytes, and what it is
pub record Region : Type 0 where
  pub start : ℕ
  pub size : ℕ
  pub what : What

abbrev pub region : ℕ → ℕ → List ℕ → Region
region start size of = record { start = start; size = size; what = words of }

-- a field: one number, unless it is longer than four bytes
abbrev pub field_what : ℕ → List ℕ → What
field_what size of = if nat_le size 4 then scalar of else words of

abbrev pub field_region : ℕ → ℕ → List ℕ → Region
field_region start size of = record { start = start; size = size; what = field_what size of }

-- a structure of this size contains the byte at an offset of the file
abbrev pub has_byte : ℕ → ℕ → ℕ → Bool
has_byte start size offset = nat_le start offset && nat_lt (offset - start) size

-- the structures that contain the byte, in the order of the list
unfoldable pub regions_at : ℕ → List Region → List Region
regions_at offset regions = filter (λ of. has_byte of.start of.size offset) regions

-- a field: its name, and its number of bytes
abbrev pub Field : Type 0
Field = List ℕ × ℕ

-- the field that a program keeps
abbrev pub seen_field : Bor (List ℕ) × ℕ → Field
seen_field of = (of.0.now, of.1)

-- fields that follow one another, the first at an offset, as structures; each is called by a word and its name
abbrev pub fields_from : List ℕ → ℕ → List Field → List Region
fields_from word start [] = []
fields_from word start (first ∷ fields) = field_region start first.1 (word ++ (codes " " ++ first.0)) ∷ fields_from word (start + first.1) fields

-- a header, which a word and a name call, and its fields
abbrev pub header_regions : List ℕ → List ℕ → ℕ → ℕ → List Field → List Region
header_regions word name start size fields = region start size (word ++ name) ∷ fields_from word start fields
