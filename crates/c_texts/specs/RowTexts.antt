-- The texts of a row, as a C caller receives them: its name, and its declaration (ECMA-335 II.5.3, II.10.1, II.15.3, II.16.1, II.17).
use Rattle.std.specs.Prelude.{◌≡◌, ◌≤◌, ℕ, Bool, true, false, List, ◌++◌, codes, take}
use Rattle.table_schema.specs.declared.table.TableId.{TableId}
use Rattle.table_schema.specs.declared.table.TableId.TheVariants.{TypeDef, Field, MethodDef, Property}
use Rattle.table_schema.specs.declared.token.Token.{Token}
use Rattle.table_schema.specs.Tokens.{IsToken}
use Rattle.sig_grammar.specs.Syntax.{Body, Method, Slot, method_body, property}
use Rattle.sig_text.specs.Declares.{as_method}
use Rattle.sig_text.specs.SignatureText.{text_of}
use Rattle.metadata.specs.Cell.{Sig, Text}
use Rattle.metadata.specs.Metadata.{Metadata, cell_in}
use Rattle.opening.specs.Views.{row_count}
use Rattle.full_names.specs.declared.quoted.NameKind.TheVariants.{Dotted}
use Rattle.full_names.specs.Names.{IsTypeDefText}
use Rattle.full_names.specs.Quoted.{name_text}
use Rattle.full_names.specs.RowNames.{IsRowName}
use Rattle.full_names.specs.Texts.{ArePiecesText, IsFullName, IsPieceText}
use Rattle.declarations.specs.Declarations.{IsDeclaration, IsPropertyDeclaration}
use Rattle.c_texts.specs.declared.row_text.RowText.{RowText}
use Rattle.c_texts.specs.declared.row_text.RowText.TheVariants.{Name, Declaration}
use Rattle.c_texts.specs.Texts.{IsLenWithin, text_limit, with_text}

-- the declaration of a field: its signature with the names of types, a space, and its own name (II.16.1)
pub record IsFieldDeclaration (model : Metadata) (row : ℕ) (text : List ℕ) : Type 0 where
  pub signature : Body
  pub is_signature : cell_in model Field row 2 ≡ Sig signature
  pub before : List ℕ
  pub is_before : ArePiecesText (IsPieceText (IsFullName model)) (text_of signature) before
  pub own : List ℕ
  pub is_own : cell_in model Field row 1 ≡ Text own
  pub whole : text ≡ before ++ (codes " " ++ name_text Dotted own)

-- the declaration of a method, by its signature (II.15.3)
abbrev pub IsMethodDeclaration : Metadata → ℕ → List ℕ → Type 0
IsMethodDeclaration model row text = (method : Method) × (cell_in model MethodDef row 4 ≡ Sig (method_body method)) × IsDeclaration model row method text

-- the declaration of a property, by its signature (II.17)
abbrev pub IsDeclaredProperty : Metadata → ℕ → List ℕ → Type 0
IsDeclaredProperty model row text =
    (this : Bool) × (of : Slot) × (params : List Slot) × (cell_in model Property row 2 ≡ Sig (property this of params))
    × IsPropertyDeclaration model row (as_method this of params) text

-- whether the rows of a table have declarations
abbrev pub has_declaration : TableId → Bool
has_declaration TypeDef = true
has_declaration Field = true
has_declaration MethodDef = true
has_declaration Property = true
has_declaration _ = false

-- the declaration of a row: that of a type is its full name (II.10.1)
abbrev pub IsDeclared : Metadata → TableId → ℕ → List ℕ → Type 0
IsDeclared model TypeDef row text = IsTypeDefText model 64 row text
IsDeclared model Field row text = IsFieldDeclaration model row text
IsDeclared model MethodDef row text = IsMethodDeclaration model row text
IsDeclared model Property row text = IsDeclaredProperty model row text
IsDeclared model _ row text = ⊥

-- whether the rows of a table have a text: each has a name, if only `..`
abbrev pub has_text : RowText → TableId → Bool
has_text Name table = true
has_text Declaration table = has_declaration table

-- a text of a row
abbrev pub IsRowText : RowText → Metadata → Token → List ℕ → Type 0
IsRowText Name model token text = IsRowName model token text
IsRowText Declaration model token text = IsDeclared model token.table token.row text

-- the number is the token of a row of a root (III.1.9)
abbrev pub IsTokenIn : List ℕ → ℕ → Token → Type 0
IsTokenIn root number token = IsToken number token × (1 ≤ token.row) × (token.row ≤ row_count root token.table)

-- a text with a property is in the buffer, up to the limit, and this is its length
abbrev pub IsTextWithin : (List ℕ → Type 0) → List ℕ → List ℕ → ℕ → Type 0
IsTextWithin is_text initial buffer len =
    (text : List ℕ) × is_text text × (buffer ≡ with_text initial (take text_limit text)) × IsLenWithin len text
