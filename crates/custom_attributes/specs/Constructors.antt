-- The types that have the constructors of custom attributes (ECMA-335 II.22.10, II.22.25, II.22.37).
use Rattle.std.specs.Prelude.{ℕ, zero, suc, nat_le, if◌then◌else◌, Option, None, Some}
use Rattle.table_schema.specs.declared.table.TableId.{TableId}
use Rattle.table_schema.specs.declared.table.TableId.TheVariants.{MemberRef, MethodDef, TypeDef}
use Rattle.table_schema.specs.declared.token.Token.{Token}
use Rattle.metadata.specs.Cell.{reference_in, start_in}
use Rattle.metadata.specs.Metadata.{Metadata, cell_in, count_in}
use Rattle.navigation.specs.Nesting.{type_token}

-- of the first types, this many, the last one whose methods begin at a method or before it: the type that has the method (II.22.37)
unfoldable pub owner_among : Metadata → ℕ → ℕ → ℕ
owner_among model method zero = 0
owner_among model method (suc earlier) =
    if nat_le (start_in (cell_in model TypeDef (suc earlier) 5)) method then suc earlier else owner_among model method earlier

-- the type that has a constructor
abbrev pub type_of : Metadata → TableId → ℕ → Option Token
type_of model MethodDef row = Some (type_token (owner_among model row (count_in model TypeDef)))
type_of model MemberRef row = reference_in (cell_in model MemberRef row 0)
type_of model _ row = None
