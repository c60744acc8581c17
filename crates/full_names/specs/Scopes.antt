-- The scope before the name of a type of another module (ECMA-335 II.7.3, II.22.38).
use Rattle.std.specs.Prelude.{◌≡◌, ℕ, zero, suc, ◌⊎◌, List, [], ◌++◌, Option, None, Some, codes}
use Rattle.table_schema.specs.declared.table.TableId.{TableId}
use Rattle.table_schema.specs.declared.table.TableId.TheVariants.{TypeRef, ModuleRef, AssemblyRef}
use Rattle.table_schema.specs.declared.token.Token.{Token}
use Rattle.metadata.specs.Cell.{Text, Ref}
use Rattle.metadata.specs.Metadata.{Metadata, cell_in}
use Rattle.navigation.specs.Nesting.{IsScope}
use Rattle.full_names.specs.declared.limit.Scopes.{Scopes}
use Rattle.full_names.specs.declared.limit.Scopes.TheVariants.{Omitted, Written}
use Rattle.full_names.specs.declared.quoted.NameKind.TheVariants.{Dotted}
use Rattle.full_names.specs.Quoted.{name_text}
use Rattle.full_names.specs.Names.{IsTypeRefText}

-- the scope of the outermost type that encloses a TypeRef, if that is one of this many
abbrev pub IsScopeWithin : Metadata → ℕ → ℕ → Option Token → Type 0
IsScopeWithin model zero row scope = scope ≡ None
IsScopeWithin model (suc depth) row scope =
    (((outer : ℕ) → ¬ IsScope model row outer) × (cell_in model TypeRef row 0 ≡ Ref scope))
    ⊎ ((outer : ℕ) × IsScope model row outer × IsScopeWithin model depth outer scope)

-- a name in brackets, after what says of what it is the name
abbrev pub in_brackets : List ℕ → List ℕ → List ℕ
in_brackets mark name = mark ++ (name_text Dotted name ++ codes "]")

-- the text of a scope: an assembly or a module that is referred to; this module has none
abbrev pub IsScopeIn : Metadata → TableId → ℕ → List ℕ → Type 0
IsScopeIn model AssemblyRef row text = (name : List ℕ) × (cell_in model AssemblyRef row 6 ≡ Text name) × (text ≡ in_brackets (codes "[") name)
IsScopeIn model ModuleRef row text = (name : List ℕ) × (cell_in model ModuleRef row 0 ≡ Text name) × (text ≡ in_brackets (codes "[.module ") name)
IsScopeIn model _ row text = text ≡ []

abbrev pub IsScopeText : Metadata → Option Token → List ℕ → Type 0
IsScopeText model None text = text ≡ []
IsScopeText model (Some scope) text = IsScopeIn model scope.table scope.row text

-- the text of the scope of a type of another module
abbrev pub IsTypeScope : Metadata → ℕ → List ℕ → Type 0
IsTypeScope model row text = (scope : Option Token) × IsScopeWithin model 64 row scope × IsScopeText model scope text

-- the name of a type of another module, after its scope if scopes are written
abbrev pub IsTypeRefName : Scopes → Metadata → ℕ → List ℕ → Type 0
IsTypeRefName Omitted model row text = IsTypeRefText model 64 row text
IsTypeRefName Written model row text = (scope : List ℕ) × IsTypeScope model row scope × (own : List ℕ) × IsTypeRefText model 64 row own × (text ≡ scope ++ own)
