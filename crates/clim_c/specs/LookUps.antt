-- The rows that look-ups write for a C caller.
use Rattle.std.specs.Prelude.{◌≡◌, ◌↔◌, ◌⊎◌, ℕ, List, take}
use Rattle.std.specs.List.{Contains}
use Rattle.std.specs.List.Sorted.{IsStrictlyIncreasing}
use Rattle.table_schema.specs.declared.table.TableId.{TableId}
use Rattle.table_schema.specs.declared.table.TableId.TheVariants.{TypeDef, Field, MethodDef, Param, EventMap, Event, PropertyMap, Property}
use Rattle.table_schema.specs.declared.token.Token.{Token}
use Rattle.metadata.specs.Metadata.{Metadata}
use Rattle.metadata.specs.Lookups.{IsRun, HasRow, HasKey}

-- the rows are the first of those with the key, in ascending order: all of them, or those for which there is room
pub record AreFirstByKey (model : Metadata) (table : TableId) (token : Token) (room : ℕ) (rows : List ℕ) : Type 0 where
  pub all : List ℕ
  pub ascending : IsStrictlyIncreasing all
  pub keyed : (row : ℕ) → Contains all row ↔ (HasRow model table row × HasKey model table token row)
  pub first : rows ≡ take room all

-- the rows of a table own rows of another: types own fields and methods, methods own parameters, and the rows of
-- EventMap and PropertyMap own events and properties (II.22.37, II.22.26, II.22.12, II.22.35)
abbrev pub Owns : TableId → TableId → Type 0
Owns owner member =
    ((owner ≡ TypeDef) × (member ≡ Field))
    ⊎ (((owner ≡ TypeDef) × (member ≡ MethodDef))
    ⊎ (((owner ≡ MethodDef) × (member ≡ Param))
    ⊎ (((owner ≡ EventMap) × (member ≡ Event))
    ⊎ ((owner ≡ PropertyMap) × (member ≡ Property)))))

-- the rows from `first` to before `past` are the run that the row owns
abbrev pub IsOwned : Metadata → TableId → TableId → ℕ → ℕ → ℕ → Type 0
IsOwned model owner member row first past =
    ((owner ≡ TypeDef) × (member ≡ Field) × IsRun model TypeDef 4 Field row first past)
    ⊎ (((owner ≡ TypeDef) × (member ≡ MethodDef) × IsRun model TypeDef 5 MethodDef row first past)
    ⊎ (((owner ≡ MethodDef) × (member ≡ Param) × IsRun model MethodDef 5 Param row first past)
    ⊎ (((owner ≡ EventMap) × (member ≡ Event) × IsRun model EventMap 1 Event row first past)
    ⊎ ((owner ≡ PropertyMap) × (member ≡ Property) × IsRun model PropertyMap 1 Property row first past))))
