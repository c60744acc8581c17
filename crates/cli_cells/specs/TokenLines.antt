-- What `clim token` prints: the rows and user strings that numbers name (ECMA-335 III.1.9 and II.24.2.4).
use Rattle.std.specs.Prelude.{◌≡◌, ◌≢◌, ◌≤◌, ℕ, ◌/◌, ◌%◌, ◌^◌, ◌⊎◌, List, [], ◌∷◌, ◌++◌, codes, Option, None, Some, All}
use Rattle.heap_entries.specs.Entries.{IsUserString, UserText}
use Rattle.cli_cells.specs.Words.{zero_padded, Token, IsToken, Metadata, IsModel, row_count, user_of, Part, word, field, member, units, Printed, Prints}
use Rattle.metadata.specs.Lookups.{HasRow}
use Rattle.cli_faults.specs.declared.failure.Failure.{Failure}
use Rattle.cli_faults.specs.declared.failure.Failure.TheVariants as failed
use Rattle.cli_lines.specs.Lines as line
use Rattle.cli_lines.specs.declared.names.Name.TheVariants as name
use Rattle.cli_cells.specs.RowLines.{row_line}
use Rattle.cli_cells.specs.Shown.{content_of}
use Rattle.cli_cells.specs.declared.row_lines.Names.TheVariants.{Hidden}

-- ---- what a number names in a root

-- a user string is at this offset of the root's `#US` heap (II.24.2.4)
abbrev pub HasString : List ℕ → ℕ → Type 0
HasString root offset = (string : UserText) × IsUserString (zero_padded (user_of root)) offset string

-- the number is the token of an existing row of the root (III.1.9)
abbrev pub HasTokenRow : List ℕ → ℕ → Type 0
HasTokenRow root number = (token : Token) × IsToken number token × (1 ≤ token.row) × (token.row ≤ row_count root token.table)

-- the number names something in the root: a user string if its high byte is 0x70, else a row
abbrev pub IsNamed : List ℕ → ℕ → Type 0
IsNamed root number =
    ((number / 2 ^ 24 ≡ 0x70) × HasString root (number % 2 ^ 24)) ⊎ ((number / 2 ^ 24 ≢ 0x70) × HasTokenRow root number)

-- ---- the line of what it names

-- the line of the user string that a number names: its units and its last byte; a string without bytes has none
unfoldable pub user_line : ℕ → List ℕ → Option ℕ → List Part
user_line number of None = word (codes "user") ∷ member name.Token (line.hex number) ∷ units of ∷ member name.Flag line.null ∷ []
user_line number of (Some flag) =
    word (codes "user ") ∷ member name.Token (line.hex number) ∷ units of ∷ word (codes " ") ∷ field name.Flag (line.number flag) ∷ []

-- the line of the user string that a number names by its offset in the model's `#US` heap
abbrev pub IsStringLine : Metadata → ℕ → List Part → Type 0
IsStringLine model number parts = (string : UserText) × IsUserString model.user (number % 2 ^ 24) string × (parts ≡ user_line number string.units string.flag)

-- the line of the row that a number is the token of, as in `clim show`
abbrev pub IsRowLine : Metadata → ℕ → List Part → Type 0
IsRowLine model number parts =
    (token : Token) × IsToken number token × HasRow model token.table token.row × (parts ≡ row_line Hidden (content_of model) token.table token.row)

-- the line of what a number names: a user string if its high byte is 0x70, else a row
abbrev pub IsTokenLine : Metadata → ℕ → List Part → Type 0
IsTokenLine model number parts =
    ((number / 2 ^ 24 ≡ 0x70) × IsStringLine model number parts) ⊎ ((number / 2 ^ 24 ≢ 0x70) × IsRowLine model number parts)

-- the lines of what numbers name, in their order
abbrev pub AreTokenLines : Metadata → List ℕ → List (List Part) → Type 0
AreTokenLines model [] lines = lines ≡ []
AreTokenLines model (number ∷ numbers) lines =
    (parts : List Part) × (more : List (List Part)) × IsTokenLine model number parts × AreTokenLines model numbers more × (lines ≡ parts ∷ more)

-- ---- what is printed

module _ {W : Type 0} (root : List ℕ) (old new : Printed W) where
  -- the lines of these numbers were printed
  abbrev pub ArePrinted : List ℕ → Type 0
  ArePrinted numbers = (model : Metadata) → IsModel root model → (lines : List (List Part)) × AreTokenLines model numbers lines × Prints old new lines

  -- a number names nothing in the root, the earlier ones name something, and their lines were printed
  abbrev pub IsStoppedAt : List ℕ → Type 0
  IsStoppedAt numbers =
      (earlier later : List ℕ) × (number : ℕ) × (numbers ≡ earlier ++ number ∷ later) × All (IsNamed root) earlier × (¬ IsNamed root number)
      × ArePrinted earlier

  -- why not all lines were printed; if memory ran out, none was
  abbrev pub Reports : List ℕ → Failure → Type 0
  Reports numbers failed.NoSuchRow = IsStoppedAt numbers
  Reports numbers failed.OutOfMemory = new ≡ old
  Reports numbers failure = ⊥
