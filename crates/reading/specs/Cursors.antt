-- Which starts of runs a cursor gives.
use Rattle.std.specs.Prelude.{◌≡◌, ℕ, ◌≤◌}
use Rattle.table_schema.specs.declared.table.TableId.{TableId}
use Rattle.table_schema.specs.declared.table.TableId.TheVariants.{TypeDef, Field, MethodDef, Param, EventMap, Event, PropertyMap, Property}
use Rattle.metadata.specs.Source.{Source}
use Rattle.metadata.specs.Starts.{start_of}
use Rattle.reading.specs.declared.start_cursor.StartCursor.{StartCursor}
use Rattle.reading.specs.declared.run_cursors.RunCursors.{RunCursors}

-- the start of the cursor is that of each owner from its first to its last
pub record IsCursor (cursor : StartCursor) (start : ℕ → ℕ) : Type 0 where
  pub each : (row : ℕ) → cursor.first ≤ row → row ≤ cursor.last → cursor.start ≡ start row

-- it is that in a column of a source
abbrev pub IsCursorIn : Source → TableId → ℕ → TableId → StartCursor → Type 0
IsCursorIn source owner column member cursor = IsCursor cursor (λ row. start_of source owner row column member)

-- each of the five cursors is one of its column
pub record AreCursors (source : Source) (cursors : RunCursors) : Type 0 where
  pub fields : IsCursorIn source TypeDef 4 Field cursors.fields
  pub methods : IsCursorIn source TypeDef 5 MethodDef cursors.methods
  pub params : IsCursorIn source MethodDef 5 Param cursors.params
  pub events : IsCursorIn source EventMap 1 Event cursors.events
  pub properties : IsCursorIn source PropertyMap 1 Property cursors.properties
