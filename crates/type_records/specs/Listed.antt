-- The tables that a coded index lists (ECMA-335 II.24.2.6).
use Rattle.std.specs.Prelude.{◌≡◌, ◌⊎◌, List, [], ◌∷◌, Option, Some, None}
use Rattle.table_schema.specs.declared.table.TableId.{TableId}

-- the table is one of those with a tag; not all tags are used
abbrev pub IsOneOf : List (Option TableId) → TableId → Type 0
IsOneOf [] table = ⊥
IsOneOf (None ∷ listed) table = IsOneOf listed table
IsOneOf (Some first ∷ listed) table = (table ≡ first) ⊎ IsOneOf listed table
