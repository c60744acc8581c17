-- The type that a path means: the names of the types that enclose it, the outermost first, and its own, with slashes between them
-- (ECMA-335 II.22.32 and II.22.37).
use Rattle.std.specs.Prelude.{◌≡◌, ◌≢◌, ◌==◌, ℕ, zero, suc, ◌<◌, ◌⊎◌, Bool, List, [], length, Option, None, Some, IfNone, IfSome, IsNone, slice_index, slice_index_or, EachIndex}
use Rattle.std.specs.List.{slice_split}
use Rattle.table_schema.specs.declared.table.TableId.{TableId}
use Rattle.table_schema.specs.declared.table.TableId.TheVariants.{TypeDef, TypeRef}
use Rattle.metadata.specs.Cell.{Text}
use Rattle.metadata.specs.Lookups.{HasRow}
use Rattle.metadata.specs.Metadata.{Metadata, cell_in}
use Rattle.navigation.specs.Nesting.{IsScope}
use Rattle.full_names.specs.Names.{IsOuter}
use Rattle.cli_names.specs.Names.{IsFullName}

abbrev pub is_slash : ℕ → Bool
is_slash byte = byte == 47

-- a name alone has no dot and no slash
abbrev pub IsBare : List ℕ → Type 0
IsBare path = EachIndex path (λ k. (slice_index path k ≢ 46) × (slice_index path k ≢ 47))

-- a row of TypeDef or TypeRef has the name that a part of a path is, after its namespace and a dot
abbrev pub HasOwnName : Metadata → TableId → List ℕ → ℕ → Type 0
HasOwnName model table part row =
    (namespace name : List ℕ) × IsFullName part namespace name × (cell_in model table row 1 ≡ Text name) × (cell_in model table row 2 ≡ Text namespace)

-- what is outside of a row, if something is
abbrev pub IsAround : (ℕ → ℕ → Type 0) → ℕ → Option ℕ → Type 0
IsAround is_outside row found = IfSome found (is_outside row) × IfNone found ((outer : ℕ) → ¬ is_outside row outer)

-- what is outside of a row of TypeDef: the type that encloses it; and of a row of TypeRef: its scope, if that is a TypeRef too (II.22.38)
abbrev pub IsOutside : Metadata → TableId → ℕ → ℕ → Type 0
IsOutside model TypeDef row outer = IsOuter model row outer
IsOutside model TypeRef row outer = IsScope model row outer
IsOutside model _ row outer = ⊥

-- the first parts of a path, this many, are the names of a row and of those outside of it; none are those of no row
abbrev pub HasParts : Metadata → TableId → List (List ℕ) → ℕ → Option ℕ → Type 0
HasParts model table parts zero found = IsNone found
HasParts model table parts (suc count) None = ⊥
HasParts model table parts (suc count) (Some row) =
    HasOwnName model table (slice_index_or parts count []) row
    × (outer : Option ℕ) × IsAround (IsOutside model table) row outer × HasParts model table parts count outer

-- all the parts are
abbrev pub HasAllParts : Metadata → TableId → List (List ℕ) → ℕ → Type 0
HasAllParts model table parts row = HasParts model table parts (length parts) (Some row)

-- a type has a path
abbrev pub HasPath : Metadata → List ℕ → ℕ → Type 0
HasPath model path row = HasAllParts model TypeDef (slice_split is_slash path) row

-- the first type after a row that has a property
pub record IsNext (model : Metadata) (Has : ℕ → Type 0) (after row : ℕ) : Type 0 where
  pub there : HasRow model TypeDef row
  pub later : after < row
  pub has : Has row
  pub first : (earlier : ℕ) → earlier < row → after < earlier → ¬ Has earlier

-- a type has this name, in whatever namespace or type
abbrev pub HasName : Metadata → List ℕ → ℕ → Type 0
HasName model name row = cell_in model TypeDef row 1 ≡ Text name

-- the only type with this name
pub record IsOnly (model : Metadata) (name : List ℕ) (row : ℕ) : Type 0 where
  pub there : HasRow model TypeDef row
  pub named : HasName model name row
  pub only : (other : ℕ) → HasRow model TypeDef other → HasName model name other → other ≡ row

-- the type that a path means: the first that has it; or else the only type with this name, if the path is a name alone
abbrev pub IsMeant : Metadata → List ℕ → ℕ → Type 0
IsMeant model path row =
    IsNext model (HasPath model path) 0 row
    ⊎ (((other : ℕ) → HasRow model TypeDef other → ¬ HasPath model path other) × IsBare path × IsOnly model path row)
