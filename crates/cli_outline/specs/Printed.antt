-- What a printer was asked to print of the outline.
use Rattle.std.specs.Prelude.{◌≡◌, ◌≢◌, ◌⊎◌, ℕ, List, [], ◌∷◌, ◌++◌, codes, Option, None, Some, IsSome}
use Rattle.cli_outline.specs.Words.{Token, Metadata, Part, Printed, Prints, OutlineOptions, shown_rows, IsDeclared}
use Rattle.full_names.specs.RowNames.{IsMemberOf}
use Rattle.cli_outline.specs.Declarations.{declaration_line, has_directive}

-- the directive of the entry point (II.6.2.3, II.15.4.1.2) follows the declaration of the row that is it
abbrev pub IsEntryText : Option Token → Token → List ℕ → Type 0
IsEntryText entry of text = ((entry ≡ Some of) × (text ≡ codes " .entrypoint")) ⊎ ((entry ≢ Some of) × (text ≡ []))

-- the text of the line of a row
abbrev pub IsRowText : OutlineOptions → Metadata → Token → List ℕ → Type 0
IsRowText options model of text =
    (declared after : List ℕ) × IsDeclared model of declared × IsEntryText options.entry of after × (text ≡ declared ++ after)

-- the line of a row
abbrev pub IsLine : OutlineOptions → Metadata → Token → List Part → Type 0
IsLine options model of line =
    (text : List ℕ) × IsRowText options model of text × (class : Option Token) × IsMemberOf model of.table of.row class
    × (line ≡ declaration_line options.tokens of class (has_directive model of) text)

-- the lines of rows, one after another
abbrev pub AreLines : OutlineOptions → Metadata → List Token → List (List Part) → Type 0
AreLines options model [] lines = lines ≡ []
AreLines options model (row ∷ rows) lines = (line : List Part) × IsLine options model row line × (later : List (List Part)) × AreLines options model rows later × (lines ≡ line ∷ later)

module _ {W : Type 0} where
  -- of the rows that have a line those of the first were printed: of all, unless printing failed
  pub record PrintsRows (options : OutlineOptions) (model : Metadata) (old new : Printed W) (rows : List Token) : Type 0 where
    pub first : List Token
    pub later : List Token
    pub whole : shown_rows options model rows ≡ first ++ later
    pub lines : List (List Part)
    pub are : AreLines options model first lines
    pub printed : Prints old new lines
    pub all : IsSome new.waiting → later ≡ []

  -- so were those of some rows that this is true of; or memory ran out before
  abbrev pub PrintsSome : OutlineOptions → Metadata → (List Token → Type 0) → Printed W → Printed W → Type 0
  PrintsSome options model Are old new = ((rows : List Token) × Are rows × PrintsRows options model old new rows) ⊎ ((new.waiting ≡ None) × Prints old new [])
