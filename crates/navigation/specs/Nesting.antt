-- The type that encloses a nested type (ECMA-335 II.22.32 and II.22.38).
use Rattle.std.specs.Prelude.{◌≡◌, ℕ, ◌≤◌, Some}
use Rattle.table_schema.specs.declared.table.TableId.TheVariants.{TypeDef, TypeRef, NestedClass}
use Rattle.table_schema.specs.declared.token.Token.{Token}
use Rattle.metadata.specs.Cell.{Ref}
use Rattle.metadata.specs.Metadata.{Metadata, cell_in}
use Rattle.metadata.specs.Lookups.{HasRow}

-- the token of a type of this module
abbrev pub type_token : ℕ → Token
type_token class = record { table = TypeDef; row = class }

-- a row of NestedClass says that a type is nested
abbrev pub IsNesting : Metadata → ℕ → ℕ → Type 0
IsNesting model class row = HasRow model NestedClass row × (cell_in model NestedClass row 0 ≡ Ref (Some (type_token class)))

-- the first row of NestedClass that says that a type is nested
pub record IsFirstNesting (model : Metadata) (class row : ℕ) : Type 0 where
  pub nesting : IsNesting model class row
  pub first : (earlier : ℕ) → IsNesting model class earlier → row ≤ earlier

-- a type encloses another: the first row of NestedClass of the nested type names it
pub record IsEnclosed (model : Metadata) (class outer : ℕ) : Type 0 where
  pub row : ℕ
  pub nesting : IsFirstNesting model class row
  pub encloses : cell_in model NestedClass row 1 ≡ Ref (Some (type_token outer))

-- the scope of a TypeRef is another TypeRef
abbrev pub IsScope : Metadata → ℕ → ℕ → Type 0
IsScope model row outer = cell_in model TypeRef row 0 ≡ Ref (Some (record { table = TypeRef; row = outer }))
