-- The name of a row of any table (ECMA-335 II.5.3, II.15.3 and II.22).
use Rattle.std.specs.Prelude.{◌≡◌, ℕ, List, ◌++◌, Option, None, Some, codes}
use Rattle.table_schema.specs.declared.table.TableId.{TableId}
use Rattle.table_schema.specs.declared.table.TableId.TheVariants.{TypeDef, TypeRef, TypeSpec, Field, MethodDef, Event, EventMap, Property, PropertyMap, MemberRef, ModuleRef, AssemblyRef, File, ExportedType, GenericParam}
use Rattle.table_schema.specs.declared.token.Token.{Token}
use Rattle.metadata.specs.Cell.{Text, Ref}
use Rattle.metadata.specs.Metadata.{Metadata, cell_in}
use Rattle.metadata.specs.Lookups.{HasRow}
use Rattle.metadata.specs.declared.member_lists.MemberList.TheVariants as list
use Rattle.navigation.specs.Maps.{IsMapOf}
use Rattle.navigation.specs.Nesting.{type_token}
use Rattle.navigation.specs.Owners.{Owns}
use Rattle.full_names.specs.declared.limit.Scopes.{Scopes}
use Rattle.full_names.specs.declared.limit.Scopes.TheVariants.{Omitted}
use Rattle.full_names.specs.declared.quoted.NameKind.{NameKind}
use Rattle.full_names.specs.declared.quoted.NameKind.TheVariants.{Identifier, Dotted, Member}
use Rattle.full_names.specs.Quoted.{name_text, type_text}
use Rattle.full_names.specs.Texts.{IsFullNameBy, IsMemberName}

-- the text in a cell
abbrev pub IsTextOf : Metadata → TableId → ℕ → ℕ → List ℕ → Type 0
IsTextOf model table row cell text = cell_in model table row cell ≡ Text text

-- the text of the name in a cell
abbrev pub IsNameOf : Metadata → NameKind → TableId → ℕ → ℕ → List ℕ → Type 0
IsNameOf model kind table row cell text = (own : List ℕ) × IsTextOf model table row cell own × (text ≡ name_text kind own)

-- the name of a field, a method, an event or a property, which is in a cell, after that of its type and two colons
abbrev pub IsNamedMember : Scopes → Metadata → TableId → ℕ → ℕ → Token → List ℕ → Type 0
IsNamedMember scopes model table row cell class text = (own : List ℕ) × IsTextOf model table row cell own × IsMemberName scopes model class own text

-- the type of a field or a method, of an event or a property (II.22.12, II.22.35, II.22.37), and the parent of a MemberRef (II.22.25)
abbrev pub IsTypeOfField : Metadata → ℕ → Token → Type 0
IsTypeOfField model row class = (of : ℕ) × Owns model list.Fields of row × (class ≡ type_token of)

abbrev pub IsTypeOfMethod : Metadata → ℕ → Token → Type 0
IsTypeOfMethod model row class = (of : ℕ) × Owns model list.Methods of row × (class ≡ type_token of)

abbrev pub IsTypeOfEvent : Metadata → ℕ → Token → Type 0
IsTypeOfEvent model row class = (of : ℕ) × (map : ℕ) × Owns model list.Events map row × IsMapOf model EventMap of map × (class ≡ type_token of)

abbrev pub IsTypeOfProperty : Metadata → ℕ → Token → Type 0
IsTypeOfProperty model row class = (of : ℕ) × (map : ℕ) × Owns model list.Properties map row × IsMapOf model PropertyMap of map × (class ≡ type_token of)

abbrev pub IsParent : Metadata → ℕ → Token → Type 0
IsParent model row class = cell_in model MemberRef row 0 ≡ Ref (Some class)

-- the type that has a row as a member; a row of any other table is no member
abbrev pub IsMemberOf : Metadata → TableId → ℕ → Option Token → Type 0
IsMemberOf model Field row class = (of : Token) × IsTypeOfField model row of × (class ≡ Some of)
IsMemberOf model MethodDef row class = (of : Token) × IsTypeOfMethod model row of × (class ≡ Some of)
IsMemberOf model Event row class = (of : Token) × IsTypeOfEvent model row of × (class ≡ Some of)
IsMemberOf model Property row class = (of : Token) × IsTypeOfProperty model row of × (class ≡ Some of)
IsMemberOf model _ row class = class ≡ None

-- the name of an exported type, after its namespace and a dot (II.22.14)
abbrev pub IsExportedName : Metadata → ℕ → List ℕ → Type 0
IsExportedName model row text =
    (namespace : List ℕ) × (name : List ℕ) × IsTextOf model ExportedType row 3 namespace × IsTextOf model ExportedType row 2 name × (text ≡ type_text namespace name)

-- the name of a row that is in its cells and stands alone; `..` stands for a row that has no name
abbrev pub IsPlainName : Metadata → TableId → ℕ → List ℕ → Type 0
IsPlainName model ModuleRef row text = IsNameOf model Dotted ModuleRef row 0 text
IsPlainName model AssemblyRef row text = IsNameOf model Dotted AssemblyRef row 6 text
IsPlainName model File row text = IsNameOf model Dotted File row 1 text
IsPlainName model ExportedType row text = IsExportedName model row text
IsPlainName model GenericParam row text = IsNameOf model Identifier GenericParam row 3 text
IsPlainName model _ row text = text ≡ codes ".."

-- the name of a MemberRef, by its parent: a type, a module, or a method of this module, whose type it is named after (II.22.25)
abbrev pub IsNameUnder : Scopes → Metadata → TableId → ℕ → List ℕ → List ℕ → Type 0
IsNameUnder scopes model MethodDef parent own text = (class : Token) × IsTypeOfMethod model parent class × IsMemberName scopes model class own text
IsNameUnder scopes model ModuleRef parent own text = (module_name : List ℕ) × IsNameOf model Dotted ModuleRef parent 0 module_name × (text ≡ module_name ++ (codes "::" ++ name_text Member own))
IsNameUnder scopes model table parent own text = IsMemberName scopes model (record { table = table; row = parent }) own text

-- the name of a row that exists, by its table
abbrev pub IsNameIn : Scopes → Metadata → TableId → ℕ → List ℕ → Type 0
IsNameIn scopes model TypeDef row text = IsFullNameBy scopes model (record { table = TypeDef; row = row }) text
IsNameIn scopes model TypeRef row text = IsFullNameBy scopes model (record { table = TypeRef; row = row }) text
IsNameIn scopes model TypeSpec row text = IsFullNameBy scopes model (record { table = TypeSpec; row = row }) text
IsNameIn scopes model Field row text = (class : Token) × IsTypeOfField model row class × IsNamedMember scopes model Field row 1 class text
IsNameIn scopes model MethodDef row text = (class : Token) × IsTypeOfMethod model row class × IsNamedMember scopes model MethodDef row 3 class text
IsNameIn scopes model Event row text = (class : Token) × IsTypeOfEvent model row class × IsNamedMember scopes model Event row 1 class text
IsNameIn scopes model Property row text = (class : Token) × IsTypeOfProperty model row class × IsNamedMember scopes model Property row 1 class text
IsNameIn scopes model MemberRef row text =
    (parent : Token) × IsParent model row parent × (own : List ℕ) × IsTextOf model MemberRef row 1 own × IsNameUnder scopes model parent.table parent.row own text
IsNameIn scopes model table row text = IsPlainName model table row text

-- the name of a row, or `..` if it does not exist
pub record IsRowNameBy (scopes : Scopes) (model : Metadata) (token : Token) (text : List ℕ) : Type 0 where
  pub there : HasRow model token.table token.row → IsNameIn scopes model token.table token.row text
  pub missing : ¬ HasRow model token.table token.row → text ≡ codes ".."

-- the same without scopes
abbrev pub IsRowName : Metadata → Token → List ℕ → Type 0
IsRowName = IsRowNameBy Omitted
