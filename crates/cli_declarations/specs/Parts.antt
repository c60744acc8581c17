-- The parts of a line, and their texts (ECMA-335 II.5, II.6, II.10).
use Rattle.std.specs.Prelude.{◌≡◌, ℕ, ◌%◌, ◌==◌, Bool, true, false, nat_lt, if◌then◌else◌, List, [], ◌∷◌, ◌++◌, length, take, codes, count_by, Option, None, Some, ◌⊎◌, nat_le, option_and_then, decimal as digits}
use Rattle.cli_declarations.specs.Words.{TableId, MethodDef, Property, Constant, ClassLayout, FieldLayout, FieldRVA, FieldMarshal, Event, Field, MemberRef, Param, TypeDef, CustomAttribute, Token, hexadecimal, token_at, token_text, Cell, Sig, number_in, text_in, bytes_in, guid_in, reference_in, AttributeValue, HasRow, Metadata, cell_in, Dotted, name_text, quoted_bytes, descriptor_in, descriptor_text, first_linked, linked, table_of, words_of, words_text}
use Rattle.sig_grammar.specs.Syntax.{Method, Slot, method_body, property}
use Rattle.sig_text.specs.Declares.{as_method}
use Rattle.sig_text.specs.SignatureText.{text_of as pieces_of_signature}
use Rattle.blob_values.specs.declared.types.ArgumentType.{ArgumentType}
use Rattle.blob_values.specs.Parts.{IsAttributeValue}
use Rattle.metadata.specs.declared.member_lists.MemberList.TheVariants as list
use Rattle.navigation.specs.Owners.{Owns}
use Rattle.custom_attributes.specs.Params.{params_of_constructor}
use Rattle.custom_attributes.specs.Texts.{value_text as attribute_value_text}
use Rattle.full_names.specs.declared.limit.Scopes.TheVariants.{Written}
use Rattle.full_names.specs.RowNames.{IsRowNameBy}
use Rattle.full_names.specs.Texts.{ArePiecesText, IsFullNameBy, IsPieceText}
use Rattle.blob_values.specs.DescriptorValues.{Descriptor}
use Rattle.declarations.specs.Declarations.{IsMethodHead, IsPropertyDeclarationBy, IsReference}
use Rattle.navigation.specs.declared.links.Link.{Link}
use Rattle.cli_lines.specs.Lines.{guid_text}
use Rattle.cli_lines.specs.Texts.{escaped_bytes}
use Rattle.type_heads.specs.Heads.{AreListed, IsInHead, enclosed}
use Rattle.cli_values.specs.Actions.{action_text}
use Rattle.cli_values.specs.Constants.{constant_text, value_limit, bytes_text as value_bytes_text}
use Rattle.type_heads.specs.declared.flag_words.FlagTable.{FlagTable}
use Rattle.type_heads.specs.declared.flag_words.FlagTable.TheVariants as flags_of
use Rattle.cli_declarations.specs.declared.layouts.Naming.{Naming}
use Rattle.cli_declarations.specs.declared.layouts.Naming.TheVariants as naming

-- a part of the line of a row; numbers are indexes of cells in the row
pub data Part : Type 0 where
  -- this text
  word : List ℕ → Part
  -- the words of the flags in a cell, a space before each
  flags : FlagTable → ℕ → Part
  -- the name in a cell (II.5.3), up to the limit
  text : ℕ → Part
  -- the number in a cell, in decimal
  number : ℕ → Part
  -- unless the text in a cell is empty: a word, and the text in quotes
  quoted_after : List ℕ → ℕ → Part
  -- unless the bytes in a cell are empty: a word, and the bytes in hexadecimal in parentheses
  bytes_after : List ℕ → ℕ → Part
  -- the public key, or the token of one, in the second cell, by the flags in the first (II.6.3)
  key : ℕ → ℕ → Part
  -- the first bytes in a cell, in hexadecimal, up to the limit of values
  first_bytes : ℕ → Part
  -- the signature of the field that the row is (II.23.2), the declaration of the method (II.15.3) or the property (II.17), or the value of the attribute (II.21)
  declaration : Part
  -- what the row is referred to by
  own : Naming → Part
  -- unless the reference in a cell is null: a word, and what the row is referred to by
  row_after : List ℕ → Naming → ℕ → Part
  -- the number in a cell, in eight hexadecimal digits
  eight_digits : ℕ → Part
  -- unless the GUID in a cell is null: the GUID in braces, in a comment
  guid_comment : ℕ → Part
  -- the action in a cell (II.22.11)
  action : ℕ → Part
  -- what the first row that refers to the row adds to it
  linked_by : Link → Part
  -- unless no row refers to the row: a word, what the rows that refer to it are in its head, with commas between them, and a word
  listed : Link → List ℕ → List ℕ → Part

-- the number of bytes of a name, a signature or another text of the file that are printed
abbrev pub text_limit : ℕ
text_limit = 0x10000

-- whether a quote is open at the end of a text: no escape contains one
abbrev pub is_open : List ℕ → Bool
is_open taken = count_by (λ byte. byte == 39) taken % 2 == 1

-- what marks that a text was cut after these bytes: `..`, after the quote that closes a name
abbrev pub cut_mark : List ℕ → List ℕ
cut_mark taken = if is_open taken then codes "'.." else codes ".."

-- a text; if it has more bytes, the first ones, and a mark
unfoldable pub cut_text : List ℕ → List ℕ
cut_text whole = take text_limit whole ++ (if nat_lt text_limit (length whole) then cut_mark (take text_limit whole) else [])

-- a word and a text in quotes, unless the text is empty
abbrev pub quoted_text : List ℕ → List ℕ → List ℕ
quoted_text before [] = []
quoted_text before (first ∷ tail) = before ++ codes "\"" ++ cut_text (quoted_bytes (first ∷ tail)) ++ codes "\""

-- a word and bytes in parentheses, unless there are none
abbrev pub bytes_text : List ℕ → List ℕ → List ℕ
bytes_text before [] = []
bytes_text before (first ∷ tail) = before ++ codes "(" ++ escaped_bytes (first ∷ tail) ++ codes ")"

-- the word for a public key or for the token of one, by the flags (II.23.1.2), and its bytes, unless there are none
abbrev pub key_text : ℕ → List ℕ → List ℕ
key_text bits [] = []
key_text bits (first ∷ tail) = words_text bits (words_of flags_of.Key) ++ bytes_text (codes " = ") (first ∷ tail)

-- the name of a row (II.5.3), up to the limit
abbrev pub IsNameText : Metadata → Token → List ℕ → Type 0
IsNameText model token out = (name : List ℕ) × IsRowNameBy Written model token name × (out ≡ cut_text name)

-- the text of the signature in a cell, with the full names of types, up to the limit (II.7.1, II.15.3); a cell that is no signature has no text
abbrev pub IsSignatureOf : Metadata → Cell → List ℕ → Type 0
IsSignatureOf model (Sig of) out = (plain : List ℕ) × ArePiecesText (IsPieceText (IsFullNameBy Written model)) (pieces_of_signature of) plain × (out ≡ cut_text plain)
IsSignatureOf model _ out = out ≡ []

-- the declaration of a method, with its full name, its generic parameters and the names of its parameters, up to the limit (II.15.3)
abbrev pub IsMethodText : Metadata → ℕ → List ℕ → Type 0
IsMethodText model row out =
    (method : Method) × (cell_in model MethodDef row 4 ≡ Sig (method_body method)) × (plain : List ℕ) × IsMethodHead Written model row method plain × (out ≡ cut_text plain)

-- the declaration of a property, with its full name, up to the limit (II.17)
abbrev pub IsPropertyText : Metadata → ℕ → List ℕ → Type 0
IsPropertyText model row out =
    (this : Bool) × (of : Slot) × (params : List Slot) × (cell_in model Property row 2 ≡ Sig (property this of params))
    × (plain : List ℕ) × IsPropertyDeclarationBy Written model row (as_method this of params) plain × (out ≡ cut_text plain)

-- whether the reference to a row of a table says which row it is: a type or a member of this module, or a MemberRef
abbrev pub has_reference : TableId → Bool
has_reference TypeDef = true
has_reference Field = true
has_reference MethodDef = true
has_reference Event = true
has_reference Property = true
has_reference MemberRef = true
has_reference _ = false

-- the reference to a row, up to the limit, or its token
abbrev pub IsReferred : Metadata → Bool → Token → List ℕ → Type 0
IsReferred model true token out = (plain : List ℕ) × IsReference Written model token plain × (out ≡ cut_text plain)
IsReferred model false token out = out ≡ token_text token

-- the reference to a parameter: its position, and the reference to its method (II.22.26, II.22.33)
abbrev pub IsParamText : Metadata → ℕ → List ℕ → Type 0
IsParamText model row out =
    (method : ℕ) × Owns model list.Params method row × (reference : List ℕ) × IsReferred model true (token_at MethodDef method) reference
    × (out ≡ codes "param [" ++ (digits (number_in (cell_in model Param row 1)) ++ (codes "] of " ++ reference)))

-- the reference to a row by its table: to a parameter if there is one, or to any other row
abbrev pub IsReferenceIn : Metadata → TableId → Token → List ℕ → Type 0
IsReferenceIn model Param token out = (HasRow model Param token.row × IsParamText model token.row out) ⊎ (¬ HasRow model Param token.row × (out ≡ token_text token))
IsReferenceIn model table token out = IsReferred model (has_reference table) token out

-- what a row is referred to by: its token, its name, or the reference to it
abbrev pub IsNaming : Naming → Metadata → Token → List ℕ → Type 0
IsNaming naming.Token model of out = out ≡ token_text of
IsNaming naming.Name model of out = IsNameText model of out
IsNaming naming.Reference model of out = IsReferenceIn model of.table of out

-- a word and what a row is referred to by, unless the reference is null
abbrev pub IsAfter : Metadata → List ℕ → Naming → Option Token → List ℕ → Type 0
IsAfter model before how None out = out ≡ []
IsAfter model before how (Some of) out = (named : List ℕ) × IsNaming how model of named × (out ≡ before ++ named)

-- ---- the values of custom attributes (II.21, II.22.10)

-- the types of the parameters of an attribute's constructor, unless its value is too long
abbrev pub params_for : Metadata → ℕ → List ℕ → Option (List ArgumentType)
params_for model row blob =
    if nat_le (length blob) value_limit
    then option_and_then (λ of. params_of_constructor model of.table of.row) (reference_in (cell_in model CustomAttribute row 1))
    else None

-- bytes in hexadecimal, up to the limit
abbrev pub bytes_value : List ℕ → List ℕ
bytes_value blob = codes " = (" ++ (value_bytes_text blob ++ codes ")")

-- the text of a value, up to the limit
abbrev pub decoded_value : AttributeValue → List ℕ
decoded_value v = codes " = {" ++ (cut_text (attribute_value_text v) ++ codes " }")

-- the text of the value that the bytes are, and of the bytes if they are none
abbrev pub IsValueText : Option (List ArgumentType) → List ℕ → List ℕ → Type 0
IsValueText None blob out = out ≡ bytes_value blob
IsValueText (Some params) blob out =
    ((v : AttributeValue) × IsAttributeValue params v blob × (out ≡ decoded_value v)) ⊎ (¬ ((v : AttributeValue) × IsAttributeValue params v blob) × (out ≡ bytes_value blob))

-- the text of the value of the attribute in a row
abbrev pub IsAttributeText : Metadata → ℕ → List ℕ → Type 0
IsAttributeText model row out =
    let blob = bytes_in (cell_in model CustomAttribute row 2) in
    IsValueText (params_for model row blob) blob out

-- what a row is: a field, a method, a property or an attribute; any other has no text
abbrev pub IsDeclarationAt : Metadata → TableId → ℕ → List ℕ → Type 0
IsDeclarationAt model Field row out = IsSignatureOf model (cell_in model Field row 2) out
IsDeclarationAt model MethodDef row out = IsMethodText model row out
IsDeclarationAt model Property row out = IsPropertyText model row out
IsDeclarationAt model CustomAttribute row out = IsAttributeText model row out
IsDeclarationAt model _ row out = out ≡ []

-- ---- the parts of a line

-- the value of a constant (II.16.2), the layout of a type (II.10.7), the offset of a field, the address of its data (II.16.3) and how
-- it is marshalled (II.7.4, II.16.1)
abbrev pub value_text : ℕ → List ℕ → List ℕ
value_text code bytes = codes " = " ++ constant_text code bytes

abbrev pub layout_text : ℕ → ℕ → List ℕ
layout_text packing size = codes " { .pack " ++ digits packing ++ codes " .size " ++ digits size ++ codes " }"

abbrev pub offset_text : ℕ → List ℕ
offset_text offset = codes " [" ++ digits offset ++ codes "]"

abbrev pub address_text : ℕ → List ℕ
address_text address = codes " at D_" ++ hexadecimal 8 address

-- the text of a descriptor, up to the limit, and of bytes that are none
abbrev pub marshal_content : Option Descriptor → List ℕ → List ℕ
marshal_content None blob = value_bytes_text blob
marshal_content (Some of) blob = cut_text (descriptor_text of)

abbrev pub marshal_text : List ℕ → List ℕ
marshal_text blob = codes " marshal(" ++ marshal_content (descriptor_in blob) blob ++ codes ")"

-- what a row of a table adds to the row that it refers to
abbrev pub referring_text : Metadata → TableId → ℕ → List ℕ
referring_text model Constant row = value_text (number_in (cell_in model Constant row 0)) (bytes_in (cell_in model Constant row 2))
referring_text model ClassLayout row = layout_text (number_in (cell_in model ClassLayout row 0)) (number_in (cell_in model ClassLayout row 1))
referring_text model FieldLayout row = offset_text (number_in (cell_in model FieldLayout row 0))
referring_text model FieldRVA row = address_text (number_in (cell_in model FieldRVA row 0))
referring_text model FieldMarshal row = marshal_text (bytes_in (cell_in model FieldMarshal row 1))
referring_text model _ row = []

-- that of the first row that refers to a row, if there is one: if there are several, the others have no text
abbrev pub linked_text : Metadata → Link → Option ℕ → List ℕ
linked_text model of None = []
linked_text model of (Some row) = referring_text model (table_of of) row

-- ---- the lists in the head of a type

-- the list of some rows, up to the limit, between two words
abbrev pub IsHeadList : Metadata → Link → List ℕ → List ℕ → List ℕ → List ℕ → Type 0
IsHeadList model of before after rows out = (items : List ℕ) × AreListed (IsInHead Written model of) [] rows items × (out ≡ enclosed before after rows (cut_text items))

-- a GUID in a comment, unless it is null
abbrev pub guid_text_in_comment : Option (List ℕ) → List ℕ
guid_text_in_comment None = []
guid_text_in_comment (Some guid) = codes " /* {" ++ guid_text guid ++ codes "} */"

-- the text of a part of the line of a row
abbrev pub IsPartText : Metadata → TableId → ℕ → Part → List ℕ → Type 0
IsPartText model table row (word of) out = out ≡ of
IsPartText model table row (flags of cell) out = out ≡ words_text (number_in (cell_in model table row cell)) (words_of of)
IsPartText model table row (text cell) out = out ≡ cut_text (name_text Dotted (text_in (cell_in model table row cell)))
IsPartText model table row (number cell) out = out ≡ digits (number_in (cell_in model table row cell))
IsPartText model table row (quoted_after before cell) out = out ≡ quoted_text before (text_in (cell_in model table row cell))
IsPartText model table row (bytes_after before cell) out = out ≡ bytes_text before (bytes_in (cell_in model table row cell))
IsPartText model table row (key of cell) out = out ≡ key_text (number_in (cell_in model table row of)) (bytes_in (cell_in model table row cell))
IsPartText model table row (first_bytes cell) out = out ≡ value_bytes_text (bytes_in (cell_in model table row cell))
IsPartText model table row declaration out = IsDeclarationAt model table row out
IsPartText model table row (own how) out = IsNaming how model (token_at table row) out
IsPartText model table row (row_after before how cell) out = IsAfter model before how (reference_in (cell_in model table row cell)) out
IsPartText model table row (eight_digits cell) out = out ≡ hexadecimal 8 (number_in (cell_in model table row cell))
IsPartText model table row (guid_comment cell) out = out ≡ guid_text_in_comment (guid_in (cell_in model table row cell))
IsPartText model table row (action cell) out = out ≡ action_text (number_in (cell_in model table row cell))
IsPartText model table row (linked_by of) out = out ≡ linked_text model of (first_linked model of (token_at table row))
IsPartText model table row (listed of before after) out = IsHeadList model of before after (linked model of (token_at table row)) out
