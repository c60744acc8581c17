-- The texts of TypeSpecs, and the name of each token (ECMA-335 II.5.3, II.7.1, II.15.3).
use Rattle.std.specs.Prelude.{◌≡◌, ℕ, ◌⊎◌, List, [], ◌∷◌, ◌++◌, codes}
use Rattle.std.specs.Fmt.{decimal, signed_decimal}
use Rattle.table_schema.specs.declared.table.TableId.TheVariants.{TypeDef, TypeRef, TypeSpec}
use Rattle.table_schema.specs.declared.token.Token.{Token}
use Rattle.sig_grammar.specs.Syntax.{Body}
use Rattle.sig_text.specs.SignatureText.{Piece, word, number, signed, name, method_name, generic_params, param_flags, param_name, text_of}
use Rattle.metadata.specs.Cell.{Sig}
use Rattle.metadata.specs.Metadata.{Metadata, cell_in}
use Rattle.metadata.specs.Lookups.{HasRow}
use Rattle.full_names.specs.declared.limit.Scopes.{Scopes}
use Rattle.full_names.specs.declared.limit.Scopes.TheVariants.{Omitted}
use Rattle.full_names.specs.declared.quoted.NameKind.TheVariants.{Member}
use Rattle.full_names.specs.Quoted.{name_text}
use Rattle.full_names.specs.Names.{IsTypeDefText}
use Rattle.full_names.specs.Scopes.{IsTypeRefName}

-- ---- pieces

-- the texts of pieces, one after another
abbrev pub ArePiecesText : (Piece → List ℕ → Type 0) → List Piece → List ℕ → Type 0
ArePiecesText is_text [] text = text ≡ []
ArePiecesText is_text (piece ∷ pieces) text = (first : List ℕ) × is_text piece first × (tail : List ℕ) × ArePiecesText is_text pieces tail × (text ≡ first ++ tail)

-- a word, a number in decimal digits, and the name of a token. Only a declaration has other pieces.
abbrev pub IsPieceText : (Token → List ℕ → Type 0) → Piece → List ℕ → Type 0
IsPieceText is_name (word of) text = text ≡ of
IsPieceText is_name (number of) text = text ≡ decimal of
IsPieceText is_name (signed of) text = text ≡ signed_decimal of
IsPieceText is_name (name token) text = is_name token text
IsPieceText is_name method_name text = ⊥
IsPieceText is_name (generic_params n) text = ⊥
IsPieceText is_name (param_flags position) text = ⊥
IsPieceText is_name (param_name position) text = ⊥

-- ---- the names of tokens

-- a row of TypeDef or TypeRef that exists
abbrev pub IsNamed : Metadata → Token → Type 0
IsNamed model token = ((token.table ≡ TypeDef) ⊎ (token.table ≡ TypeRef)) × HasRow model token.table token.row

-- the text of a token within the text of a TypeSpec: `..` stands for a TypeSpec, and for a row that does not exist
pub record IsInnerName (scopes : Scopes) (model : Metadata) (token : Token) (text : List ℕ) : Type 0 where
  pub type_def : token.table ≡ TypeDef → HasRow model token.table token.row → IsTypeDefText model 64 token.row text
  pub type_ref : token.table ≡ TypeRef → HasRow model token.table token.row → IsTypeRefName scopes model token.row text
  pub other : ¬ IsNamed model token → text ≡ codes ".."

-- the text of a TypeSpec that has this signature
abbrev pub IsTypeSpecText : Scopes → Metadata → Body → List ℕ → Type 0
IsTypeSpecText scopes model signature = ArePiecesText (IsPieceText (IsInnerName scopes model)) (text_of signature)

-- the text of a token: the name of a type, the type that a TypeSpec is, and `..` for a row that does not exist
pub record IsFullNameBy (scopes : Scopes) (model : Metadata) (token : Token) (text : List ℕ) : Type 0 where
  pub type_def : token.table ≡ TypeDef → HasRow model token.table token.row → IsTypeDefText model 64 token.row text
  pub type_ref : token.table ≡ TypeRef → HasRow model token.table token.row → IsTypeRefName scopes model token.row text
  pub type_spec : token.table ≡ TypeSpec → HasRow model token.table token.row
      → (signature : Body) → cell_in model TypeSpec token.row 0 ≡ Sig signature → IsTypeSpecText scopes model signature text
  pub other : ¬ IsNamed model token → ¬ ((token.table ≡ TypeSpec) × HasRow model token.table token.row) → text ≡ codes ".."

-- the same without scopes
abbrev pub IsFullName : Metadata → Token → List ℕ → Type 0
IsFullName = IsFullNameBy Omitted

-- ---- members

-- a member's name after that of its type
abbrev pub IsMemberName : Scopes → Metadata → Token → List ℕ → List ℕ → Type 0
IsMemberName scopes model class own text = (of : List ℕ) × IsFullNameBy scopes model class of × (text ≡ of ++ (codes "::" ++ name_text Member own))
