-- The lists in the head of a type: its generic parameters with their constraints, and the interfaces that it implements (ECMA-335 II.10.1.7,
-- II.10.2 and II.12.2).
use Rattle.std.specs.Prelude.{◌≡◌, ℕ, List, [], ◌∷◌, ◌++◌, codes, Option, None, Some}
use Rattle.table_schema.specs.declared.table.TableId.TheVariants.{GenericParam}
use Rattle.table_schema.specs.declared.token.Token.{Token}
use Rattle.metadata.specs.Cell.{number_in, reference_in, text_in}
use Rattle.metadata.specs.Metadata.{Metadata, cell_in}
use Rattle.navigation.specs.declared.links.Link.{Link}
use Rattle.navigation.specs.declared.links.Link.TheVariants as link_of
use Rattle.navigation.specs.Linked.{linked, table_of}
use Rattle.full_names.specs.declared.limit.Scopes.{Scopes}
use Rattle.full_names.specs.declared.quoted.NameKind.TheVariants.{Identifier}
use Rattle.full_names.specs.Quoted.{name_text}
use Rattle.full_names.specs.Texts.{IsFullNameBy}
use Rattle.type_heads.specs.FlagWords.{leading_words, words_of}
use Rattle.type_heads.specs.declared.flag_words.FlagTable.TheVariants as flags

-- the texts of rows, with commas between them; a word is before the first
abbrev pub AreListed : (ℕ → List ℕ → Type 0) → List ℕ → List ℕ → List ℕ → Type 0
AreListed is_text before [] out = out ≡ []
AreListed is_text before (row ∷ rows) out =
    (first : List ℕ) × is_text row first × (tail : List ℕ) × AreListed is_text (codes ", ") rows tail × (out ≡ before ++ (first ++ tail))

-- a text between two words, unless there are no rows
abbrev pub enclosed : List ℕ → List ℕ → List ℕ → List ℕ → List ℕ
enclosed before after [] text = []
enclosed before after (row ∷ rows) text = before ++ (text ++ after)

-- the full name, with or without scopes, of the type that a row of InterfaceImpl or GenericParamConstraint refers to (II.22.21, II.22.23)
abbrev pub IsTypeName : Scopes → Metadata → Option Token → List ℕ → Type 0
IsTypeName scopes model None out = out ≡ []
IsTypeName scopes model (Some token) out = IsFullNameBy scopes model token out

abbrev pub IsTypeOf : Scopes → Metadata → Link → ℕ → List ℕ → Type 0
IsTypeOf scopes model of row out = IsTypeName scopes model (reference_in (cell_in model (table_of of) row 1)) out

-- the constraints of a generic parameter, in parentheses and a space after them
abbrev pub AreConstraints : Scopes → Metadata → List ℕ → List ℕ → Type 0
AreConstraints scopes model rows out =
    (types : List ℕ) × AreListed (IsTypeOf scopes model link_of.Constraints) [] rows types × (out ≡ enclosed (codes "(") (codes ") ") rows types)

-- the token of a generic parameter
abbrev pub param_token : ℕ → Token
param_token row = record { table = GenericParam; row = row }

-- a generic parameter: the words of its flags, a space after each, its constraints, and its name (II.22.20)
abbrev pub IsGenericParam : Scopes → Metadata → ℕ → List ℕ → Type 0
IsGenericParam scopes model row out =
    (constraints : List ℕ) × AreConstraints scopes model (linked model link_of.Constraints (param_token row)) constraints
    × (out ≡ leading_words (number_in (cell_in model GenericParam row 1)) (words_of flags.Generic)
    ++ (constraints ++ name_text Identifier (text_in (cell_in model GenericParam row 3))))

-- what a row is in the head of the row that it refers to
abbrev pub IsInHead : Scopes → Metadata → Link → ℕ → List ℕ → Type 0
IsInHead scopes model link_of.GenericParams row out = IsGenericParam scopes model row out
IsInHead scopes model of row out = IsTypeOf scopes model of row out
