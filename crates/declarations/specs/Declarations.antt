-- The declarations of methods and properties, and references to methods and fields (ECMA-335 II.15.3, II.17, II.22.25, II.22.33).
use Rattle.std.specs.Prelude.{◌≡◌, ◌≢◌, ℕ, ◌+◌, ◌≤◌, ◌<◌, ◌↔◌, ◌⊎◌, ⊤, List, [], ◌∷◌, ◌++◌, map, Option, None, Some, codes, decimal, filter}
use Rattle.table_schema.specs.declared.table.TableId.TheVariants.{TypeDef, MethodDef, MemberRef, Param, Property, FieldMarshal}
use Rattle.table_schema.specs.declared.table.TableId.{TableId}
use Rattle.table_schema.specs.declared.token.Token.{Token}
use Rattle.sig_grammar.specs.Syntax.{Body, Method}
use Rattle.sig_text.specs.Declares.{member_text}
use Rattle.sig_text.specs.SignatureText.{Piece, method_name, generic_params, param_flags, param_name, declared_text}
use Rattle.metadata.specs.Cell.{Text, Number, Sig, number_in, bytes_in}
use Rattle.metadata.specs.Metadata.{Metadata, cell_in}
use Rattle.metadata.specs.Model.{IsModel}
use Rattle.metadata.specs.Lookups.{HasRow, IsRun}
use Rattle.metadata.specs.declared.member_lists.MemberList.TheVariants as list
use Rattle.navigation.specs.declared.links.Link.TheVariants as link
use Rattle.navigation.specs.Linked.{first_linked, linked}
use Rattle.navigation.specs.Keyed.{has_key, keyed_rows, row_of}
use Rattle.navigation.specs.Owners.{Owns}
use Rattle.navigation.specs.declared.keyed.KeyedRow.{KeyedRow}
use Rattle.full_names.specs.declared.limit.Scopes.{Scopes}
use Rattle.full_names.specs.declared.limit.Scopes.TheVariants.{Omitted}
use Rattle.full_names.specs.declared.quoted.NameKind.TheVariants.{Identifier, Member}
use Rattle.full_names.specs.Quoted.{name_text}
use Rattle.full_names.specs.RowNames.{IsParent, IsRowNameBy, IsTypeOfMethod, IsTypeOfProperty}
use Rattle.full_names.specs.Texts.{ArePiecesText, IsFullNameBy, IsPieceText}
use Rattle.type_heads.specs.declared.flag_words.FlagTable.TheVariants as flag_table
use Rattle.type_heads.specs.FlagWords.{leading_words, words_of}
use Rattle.type_heads.specs.Heads.{AreListed, IsInHead}
use Rattle.declarations.specs.declared.links.Links.{Links}
use Rattle.declarations.specs.Descriptors.{marshal_text}

-- the position in a row of Param (II.22.33)
abbrev pub position_in : Metadata → ℕ → ℕ
position_in model row = number_in (cell_in model Param row 1)

-- among the rows of Param from one on to before another, which may be in any order, this is the first one that has the position
pub record IsParamAt (model : Metadata) (first past position row : ℕ) : Type 0 where
  pub there : HasRow model Param row
  pub from : first ≤ row
  pub to : row < past
  pub sequence : cell_in model Param row 1 ≡ Number position
  pub before : (earlier : ℕ) → HasRow model Param earlier → first ≤ earlier → cell_in model Param earlier 1 ≡ Number position → row ≤ earlier

-- these are the rows of Param from one on to before another that exist; those with one position are in ascending order
abbrev pub AreParams : Metadata → ℕ → ℕ → List KeyedRow → Type 0
AreParams model first past rows =
    (from : ℕ) × (count : ℕ) × ((position : ℕ) → filter (has_key position) rows ≡ filter (has_key position) (keyed_rows (position_in model) from count))
    × ((row : ℕ) → (HasRow model Param row × (first ≤ row) × (row < past)) ↔ ((from ≤ row) × (row < from + count)))

-- a space before a name, if it is not empty
abbrev pub spaced : List ℕ → List ℕ
spaced [] = []
spaced (first ∷ tail) = codes " " ++ name_text Identifier (first ∷ tail)

-- the row of the parameter with a position, if there is one
abbrev pub IsParamRow : Metadata → ℕ → ℕ → ℕ → Option ℕ → Type 0
IsParamRow model first past position None = (row : ℕ) → ¬ IsParamAt model first past position row
IsParamRow model first past position (Some row) = IsParamAt model first past position row

-- the text of the name in a row of Param; empty without a row
abbrev pub IsNameOf : Metadata → Option ℕ → List ℕ → Type 0
IsNameOf model None text = text ≡ []
IsNameOf model (Some row) text = (own : List ℕ) × (cell_in model Param row 2 ≡ Text own) × (text ≡ spaced own)

-- the words of the flags in a row of Param, a space after each (II.15.4, II.23.1.13); none without a row
abbrev pub IsFlagsOf : Metadata → Option ℕ → List ℕ → Type 0
IsFlagsOf model None text = text ≡ []
IsFlagsOf model (Some row) text = (flags : ℕ) × (cell_in model Param row 0 ≡ Number flags) × (text ≡ leading_words flags (words_of flag_table.Param))

-- how the parameter in a row of Param is marshalled, by the first row of FieldMarshal that refers to it (II.22.17), and a space
-- before or after it; empty without such a row
abbrev pub marshal_by : (List ℕ → List ℕ) → Metadata → Option ℕ → List ℕ
marshal_by spaced model None = []
marshal_by spaced model (Some row) = spaced (marshal_text (bytes_in (cell_in model FieldMarshal row 1)))

abbrev pub param_token : ℕ → Token
param_token row = record { table = Param; row = row }

abbrev pub IsMarshalOf : (List ℕ → List ℕ) → Metadata → Option ℕ → List ℕ → Type 0
IsMarshalOf spaced model None text = text ≡ []
IsMarshalOf spaced model (Some row) text = text ≡ marshal_by spaced model (first_linked model link.Marshalling (param_token row))

-- the same of the blob of that row
abbrev pub marshalled : (List ℕ → List ℕ) → Option (List ℕ) → List ℕ
marshalled spaced None = []
marshalled spaced (Some blob) = spaced (marshal_text blob)

abbrev pub after_space : List ℕ → List ℕ
after_space text = codes " " ++ text

abbrev pub before_space : List ℕ → List ℕ
before_space text = text ++ codes " "

-- the text of the name, of the flags, or of how it is marshalled, of the parameter with a position; the result has position 0
abbrev pub IsParamText : (Metadata → Option ℕ → List ℕ → Type 0) → Metadata → ℕ → ℕ → ℕ → List ℕ → Type 0
IsParamText is_text model first past position text = (row : Option ℕ) × IsParamRow model first past position row × is_text model row text

-- the name of a method, a property or a field after that of its type or its module
abbrev pub IsMemberOfClass : Scopes → Metadata → Token → List ℕ → List ℕ → Type 0
IsMemberOfClass scopes model class own text = (of : List ℕ) × IsRowNameBy scopes model class of × (text ≡ of ++ (codes "::" ++ name_text Member own))

-- two texts, one after another
abbrev pub IsPair : (List ℕ → Type 0) → (List ℕ → Type 0) → List ℕ → Type 0
IsPair is_first is_second text = (a : List ℕ) × is_first a × (b : List ℕ) × is_second b × (text ≡ a ++ b)

-- the generic parameters of a method by their rows, with their flags and constraints (II.10.1.7, II.15.1), or their number if there are no rows
abbrev pub arity_text : ℕ → List ℕ
arity_text n = codes "<[" ++ (decimal n ++ codes "]>")

abbrev pub IsGenerics : Scopes → Metadata → List ℕ → ℕ → List ℕ → Type 0
IsGenerics scopes model [] n text = text ≡ arity_text n
IsGenerics scopes model (row ∷ rows) n text =
    (params : List ℕ) × AreListed (IsInHead scopes model link.GenericParams) [] (row ∷ rows) params × (text ≡ codes "<" ++ (params ++ codes ">"))

-- the rows that are known of the generic parameters of a method, and the model in which they are known
abbrev pub generic_rows : Option Links → List ℕ
generic_rows None = []
generic_rows (Some of) = map row_of of.generics.now

abbrev pub AreLinksOf : Metadata → Option Links → Type 0
AreLinksOf model None = ⊤
AreLinksOf model (Some of) = IsModel of.neighbours.now.view.now model

-- the pieces of a declaration: of a member of a class, with its own name, the run of its parameters, and the rows of its generic
-- parameters. Before its name is how the result is marshalled, and before the name of a parameter how this is (II.15.3, II.15.4)
abbrev pub IsDeclaredPiece : Scopes → Metadata → Token → List ℕ → ℕ → ℕ → List ℕ → Piece → List ℕ → Type 0
IsDeclaredPiece scopes model class own first past generics method_name text =
    IsPair (IsParamText (IsMarshalOf before_space) model first past 0) (IsMemberOfClass scopes model class own) text
IsDeclaredPiece scopes model class own first past generics (generic_params n) text = IsGenerics scopes model generics n text
IsDeclaredPiece scopes model class own first past generics (param_flags position) text = IsParamText IsFlagsOf model first past position text
IsDeclaredPiece scopes model class own first past generics (param_name position) text =
    IsPair (IsParamText (IsMarshalOf after_space) model first past position) (IsParamText IsNameOf model first past position) text
IsDeclaredPiece scopes model class own first past generics piece text = IsPieceText (IsFullNameBy scopes model) piece text

-- the text of the declaration of a method that has this signature, with the generic parameters in these rows
pub record IsDeclarationWith (generics : List ℕ) (scopes : Scopes) (model : Metadata) (row : ℕ) (method : Method) (text : List ℕ) : Type 0 where
  pub class : ℕ
  pub owner : Owns model list.Methods class row
  pub own : List ℕ
  pub is_named : cell_in model MethodDef row 3 ≡ Text own
  pub first : ℕ
  pub past : ℕ
  pub params : IsRun model MethodDef 5 Param row first past
  pub pieces : ArePiecesText (IsDeclaredPiece scopes model (record { table = TypeDef; row = class }) own first past generics) (declared_text method) text

-- the same with the number of its generic parameters, and with those that refer to the method (II.15.1, II.22.20)
abbrev pub IsDeclarationBy : Scopes → Metadata → ℕ → Method → List ℕ → Type 0
IsDeclarationBy = IsDeclarationWith []

abbrev pub IsMethodHead : Scopes → Metadata → ℕ → Method → List ℕ → Type 0
IsMethodHead scopes model row = IsDeclarationWith (linked model link.GenericParams (record { table = MethodDef; row = row })) scopes model row

abbrev pub IsDeclaration : Metadata → ℕ → Method → List ℕ → Type 0
IsDeclaration = IsDeclarationBy Omitted

-- the text of the declaration of a property that has the form of this method; its parameters have no rows, so no names
pub record IsPropertyDeclarationBy (scopes : Scopes) (model : Metadata) (row : ℕ) (form : Method) (text : List ℕ) : Type 0 where
  pub class : Token
  pub member : IsTypeOfProperty model row class
  pub own : List ℕ
  pub is_named : cell_in model Property row 1 ≡ Text own
  pub pieces : ArePiecesText (IsDeclaredPiece scopes model class own 0 0 []) (declared_text form) text

abbrev pub IsPropertyDeclaration : Metadata → ℕ → Method → List ℕ → Type 0
IsPropertyDeclaration = IsPropertyDeclarationBy Omitted

-- ---- references

-- the type or the module before the name of a MemberRef: its parent, or the type of its parent, a method (II.22.25)
abbrev pub IsClassUnder : Metadata → TableId → ℕ → Token → Type 0
IsClassUnder model MethodDef row class = IsTypeOfMethod model row class
IsClassUnder model table row class = class ≡ record { table = table; row = row }

-- that of a method or a MemberRef
abbrev pub IsClassOf : Metadata → TableId → ℕ → Token → Type 0
IsClassOf model MemberRef row class = (parent : Token) × IsParent model row parent × IsClassUnder model parent.table parent.row class
IsClassOf model table row class = IsTypeOfMethod model row class

-- the text of a reference to what has this signature: as it is declared, without the names and the flags of parameters
pub record IsReferenceTo (scopes : Scopes) (model : Metadata) (table : TableId) (row name_cell : ℕ) (signature : Body) (text : List ℕ) : Type 0 where
  pub class : Token
  pub owner : IsClassOf model table row class
  pub own : List ℕ
  pub is_named : cell_in model table row name_cell ≡ Text own
  pub pieces : ArePiecesText (IsDeclaredPiece scopes model class own 0 0 []) (member_text signature) text

-- the same with the signature in a cell
abbrev pub IsReferenceBy : Scopes → Metadata → TableId → ℕ → ℕ → ℕ → List ℕ → Type 0
IsReferenceBy scopes model table row name_cell signature_cell text =
    (signature : Body) × (cell_in model table row signature_cell ≡ Sig signature) × IsReferenceTo scopes model table row name_cell signature text

-- the text of a reference to a row: of a method or a MemberRef with its signature (II.15.3, II.22.25, II.22.26), of any other row its name
pub record IsReference (scopes : Scopes) (model : Metadata) (token : Token) (text : List ℕ) : Type 0 where
  pub method : token.table ≡ MethodDef → HasRow model MethodDef token.row → IsReferenceBy scopes model MethodDef token.row 3 4 text
  pub member : token.table ≡ MemberRef → HasRow model MemberRef token.row → IsReferenceBy scopes model MemberRef token.row 1 2 text
  pub other : (token.table ≢ MethodDef) × (token.table ≢ MemberRef) ⊎ ¬ HasRow model token.table token.row → IsRowNameBy scopes model token text
