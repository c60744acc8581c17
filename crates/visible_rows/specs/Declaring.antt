-- The type that declares what a row describes (ECMA-335 II.22): the type itself, a member of it, or a parameter of its methods.
use Rattle.std.specs.Prelude.{◌≡◌, ℕ, Option, None, Some}
use Rattle.table_schema.specs.declared.table.TableId.{TableId}
use Rattle.table_schema.specs.declared.table.TableId.TheVariants.{TypeDef, MethodDef, Param, InterfaceImpl, GenericParam, GenericParamConstraint, MethodImpl, ImplMap, DeclSecurity, CustomAttribute}
use Rattle.table_schema.specs.declared.token.Token.{Token}
use Rattle.metadata.specs.Cell.{reference_in}
use Rattle.metadata.specs.Metadata.{Metadata, cell_in}
use Rattle.metadata.specs.declared.member_lists.MemberList.TheVariants as list
use Rattle.navigation.specs.Owners.{Owns}
use Rattle.full_names.specs.RowNames.{IsMemberOf}

-- the row that a row describes: the class of an interface or an override, the owner of a generic parameter or a constraint, the
-- member that is imported, and the parent of a permission set or an attribute (II.22.10, II.22.11, II.22.20 to II.22.23, II.22.27)
abbrev pub subject_of : Metadata → TableId → ℕ → Option Token
subject_of model InterfaceImpl row = reference_in (cell_in model InterfaceImpl row 0)
subject_of model GenericParam row = reference_in (cell_in model GenericParam row 2)
subject_of model GenericParamConstraint row = reference_in (cell_in model GenericParamConstraint row 0)
subject_of model MethodImpl row = reference_in (cell_in model MethodImpl row 0)
subject_of model ImplMap row = reference_in (cell_in model ImplMap row 1)
subject_of model DeclSecurity row = reference_in (cell_in model DeclSecurity row 1)
subject_of model CustomAttribute row = reference_in (cell_in model CustomAttribute row 0)
subject_of model _ row = None

abbrev pub or_itself : Token → Option Token → Token
or_itself of None = of
or_itself of (Some subject) = subject

abbrev pub described : Metadata → Token → Token
described model of = or_itself of (subject_of model of.table of.row)

-- What a row describes in the end. An attribute can describe a constraint, which describes a generic parameter, which describes a
-- type or a method.
abbrev pub described_last : Metadata → Token → Token
described_last model of = described model (described model (described model of))

-- the type that a row is, that has it as a member, or that has its method as a member (II.22.33); no type for any other row
abbrev pub IsPartOf : Metadata → TableId → ℕ → Option Token → Type 0
IsPartOf model TypeDef row class = class ≡ Some (record { table = TypeDef; row = row })
IsPartOf model Param row class = (method : ℕ) × Owns model list.Params method row × IsMemberOf model MethodDef method class
IsPartOf model table row class = IsMemberOf model table row class

abbrev pub IsDeclaring : Metadata → Token → Option Token → Type 0
IsDeclaring model of class = let last = described_last model of in IsPartOf model last.table last.row class
