-- Which rows of some tables are chosen.
use Rattle.std.specs.Prelude.{◌≡◌, ◌≢◌, ◌⊎◌, Bool, true, false, List, [], ◌∷◌, Option, Some, ⊤}
use Rattle.table_schema.specs.declared.token.Token.{Token}
use Rattle.metadata.specs.Metadata.{Metadata}
use Rattle.visible_rows.specs.Declaring.{IsDeclaring}
use Rattle.cli_names.specs.declared.chosen.Choice.{Choice}
use Rattle.cli_names.specs.declared.chosen.Choice.TheVariants.{All, Describing, Belonging}
use Rattle.cli_names.specs.Refs.{BelongsTo, IsWantedRef}

-- those of some rows that one property holds of, in the same order; of each of the others the other property holds
abbrev pub AreChosenBy : (Token → Type 0) → (Token → Type 0) → List Token → List Token → Type 0
AreChosenBy Yes No [] found = found ≡ []
AreChosenBy Yes No (row ∷ rows) found =
    (later : List Token) × AreChosenBy Yes No rows later × ((Yes row × (found ≡ row ∷ later)) ⊎ (No row × (found ≡ later)))

-- a row describes a type or what it declares, or it does not
abbrev pub IsDescribing : Metadata → Token → Bool → Token → Type 0
IsDescribing model class true row = IsDeclaring model row (Some class)
IsDescribing model class false row = (declaring : Option Token) × IsDeclaring model row declaring × (declaring ≢ Some class)

-- a row is chosen, or it is not
abbrev pub IsChosen : Metadata → Choice → Bool → Token → Type 0
IsChosen model All true row = ⊤
IsChosen model All false row = ⊥
IsChosen model (Describing class) test row = IsDescribing model class test row
IsChosen model (Belonging wanted) true row = BelongsTo model (IsWantedRef model wanted.now) row
IsChosen model (Belonging wanted) false row = ¬ BelongsTo model (IsWantedRef model wanted.now) row
