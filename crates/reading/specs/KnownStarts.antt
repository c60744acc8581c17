-- Which starts of runs are known without passing over the owners.
use Rattle.std.specs.Prelude.{◌≡◌, ℕ, ◌+◌, ◌*◌, ◌≤◌, slice_index}
use Rattle.table_schema.specs.declared.table.TableId.{TableId}
use Rattle.table_schema.specs.declared.table.TableId.TheVariants.{TypeDef, Field, MethodDef, Param, EventMap, Event, PropertyMap, Property}
use Rattle.metadata.specs.Source.{Source, rows_in}
use Rattle.metadata.specs.Starts.{start_of}
use Rattle.reading.specs.declared.known_starts.KnownStarts.{KnownStarts}
use Rattle.reading.specs.declared.known_starts.KnownRuns.{KnownRuns}

-- the starts are known for the owners from a first to the last whose row is a multiple of the step
pub record IsKnown (known : KnownStarts) (start : ℕ → ℕ) (first last : ℕ) : Type 0 where
  pub each : (k : ℕ) → first ≤ known.step * (k + 1) → known.step * (k + 1) ≤ last → slice_index known.starts k ≡ start (known.step * (k + 1))

-- the starts in a column of a source are known from the first owner on
abbrev pub IsKnownIn : Source → TableId → ℕ → TableId → KnownStarts → Type 0
IsKnownIn source owner column member known = IsKnown known (λ row. start_of source owner row column member) 1 (rows_in source owner)

-- the starts of the five runs are known
pub record AreKnown (source : Source) (known : KnownRuns) : Type 0 where
  pub fields : IsKnownIn source TypeDef 4 Field known.fields
  pub methods : IsKnownIn source TypeDef 5 MethodDef known.methods
  pub params : IsKnownIn source MethodDef 5 Param known.params
  pub events : IsKnownIn source EventMap 1 Event known.events
  pub properties : IsKnownIn source PropertyMap 1 Property known.properties
