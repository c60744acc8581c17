-- The rows of EventMap and PropertyMap of a type (ECMA-335 II.22.12 and II.22.35).
use Rattle.std.specs.Prelude.{◌≡◌, ℕ, ◌≤◌, Some}
use Rattle.table_schema.specs.declared.table.TableId.{TableId}
use Rattle.metadata.specs.Cell.{Ref}
use Rattle.metadata.specs.Metadata.{Metadata, cell_in}
use Rattle.metadata.specs.Lookups.{HasRow}
use Rattle.navigation.specs.Nesting.{type_token}

-- a row of a map is of this type
abbrev pub IsMapOf : Metadata → TableId → ℕ → ℕ → Type 0
IsMapOf model map class row = HasRow model map row × (cell_in model map row 0 ≡ Ref (Some (type_token class)))

-- the first row of a map that is of this type
pub record IsFirstMap (model : Metadata) (map : TableId) (class row : ℕ) : Type 0 where
  pub of_type : IsMapOf model map class row
  pub first : (earlier : ℕ) → IsMapOf model map class earlier → row ≤ earlier
