-- What is printed of the type, or of the other row, that is asked for (ECMA-335 II.22). Of a type these are the rows that describe it or what it
-- declares: parameters with default values, interfaces, generic parameters and their constraints, overrides, imports, permission sets and attributes.
use Rattle.std.specs.Prelude.{◌≡◌, ◌≢◌, ◌⊎◌, ◌&&◌, ℕ, Bool, true, false, List, [], ◌∷◌, ◌++◌, ⊤, flat_map}
use Rattle.cli_outline.specs.Words.{TypeDef, Token, Metadata, Printed as Printer, is_declared_in, AreChosenBy, IsChosen, IsDescribing, Order, has_line, OutlineOptions, Subject}
use Rattle.navigation.specs.Nesting.{type_token}
use Rattle.cli_names.specs.declared.chosen.Choice.{Choice}
use Rattle.cli_names.specs.Subjects.{IsSubject}
use Rattle.cli_outline.specs.declared.outline.Outcome.{Outcome}
use Rattle.cli_outline.specs.declared.outline.Outcome.TheVariants.{Printed, NoSuchType, OutOfMemory}
use Rattle.cli_outline.specs.Orders.{IsOrder}
use Rattle.cli_outline.specs.Outline.{all_rows, class_rows, last_tables}
use Rattle.cli_outline.specs.Printed.{PrintsRows, PrintsSome}

-- the lines of those of some rows that are chosen were printed; for private clauses
pub record PrintsChosen {W : Type 0} (options : OutlineOptions) (model : Metadata) (of : Choice) (old new : Printer W) (rows : List Token) : Type 0 where
  pub found : List Token
  pub chosen : AreChosenBy (IsChosen model of true) (IsChosen model of false) rows found
  pub printed : PrintsRows options model old new found

-- those of some rows that describe a type or what it declares, in the same order
abbrev pub AreDescribing : Metadata → Token → List Token → List Token → Type 0
AreDescribing model class rows found = AreChosenBy (IsDescribing model class true) (IsDescribing model class false) rows found

-- the rows of a type and its members, and those that describe them, in the order that is asked for
abbrev pub AreTypeRows : OutlineOptions → Metadata → ℕ → List Token → Type 0
AreTypeRows options model class rows =
    (order : Order) × IsOrder options options.sorting model order × (found : List Token)
    × AreDescribing model (type_token class) (flat_map (all_rows order model) last_tables) found × (rows ≡ class_rows order model class ++ found)

-- a row has a declaration of its own
abbrev pub is_declared : Metadata → Token → Bool
is_declared model of = is_declared_in of.table && has_line model of.table of.row

-- the rows whose declarations make those of a row: of a type its own, those of its members and those that describe them; of any other the row alone
abbrev pub AreSubjectRows : OutlineOptions → Metadata → Token → List Token → Type 0
AreSubjectRows options model of rows = ((of.table ≡ TypeDef) × AreTypeRows options model of.row rows) ⊎ ((of.table ≢ TypeDef) × (rows ≡ of ∷ []))

-- the lines of the subject were printed if there is one that has a declaration
abbrev pub PrintsSubject : {W : Type 0} → OutlineOptions → Metadata → Subject → Printer W → Printer W → Outcome → Type 0
PrintsSubject options model subject old new Printed = (of : Token) × IsSubject model subject of × (is_declared model of ≡ true) × PrintsSome options model (AreSubjectRows options model of) old new
PrintsSubject options model subject old new NoSuchType = (of : Token) → IsSubject model subject of → is_declared model of ≡ false
PrintsSubject options model subject old new OutOfMemory = ⊤

-- nothing was printed if there is no subject, or none was found
abbrev pub PrintsNone : {W : Type 0} → Printer W → Printer W → Outcome → Type 0
PrintsNone old new Printed = ⊤
PrintsNone old new outcome = new ≡ old
