-- The text of the value of a custom attribute, in the notation of ILAsm (ECMA-335 II.21, II.23.3).
use Rattle.std.specs.Prelude.{ℕ, ◌*◌, ◌-◌, ◌==◌, nat_lt, if◌then◌else◌, Option, None, Some, List, [], ◌∷◌, ◌++◌, length, codes, decimal, flat_map}
use Rattle.table_schema.specs.Tokens.{hexadecimal}
use Rattle.sig_grammar.specs.declared.element.Element.{Element}
use Rattle.sig_grammar.specs.declared.element.Element.TheVariants.{Boolean, I1, I2, I4, I8, R4, R8}
use Rattle.sig_text.specs.SignatureText.{element_text}
use Rattle.full_names.specs.Quoted.{quoted_bytes}
use Rattle.blob_values.specs.declared.types.ElementType.{ElementType}
use Rattle.blob_values.specs.declared.types.ElementType.TheVariants.{Simple, SystemType}
use Rattle.blob_values.specs.declared.types.ArgumentType.{ArgumentType}
use Rattle.blob_values.specs.declared.types.ArgumentType.TheVariants.{One, Vector}
use Rattle.blob_values.specs.declared.item.Member.{Member}
use Rattle.blob_values.specs.declared.item.Member.TheVariants.{Field, Property}
use Rattle.blob_values.specs.Values.{Scalar, number, text, type_name, Elem, plain, boxed, Argument, one, vector, Named, AttributeValue, scalar_type, argument_type}

-- a signed number by its bytes: those from `half` on are negative
abbrev pub signed_text : ℕ → ℕ → List ℕ
signed_text half n = if nat_lt n half then decimal n else codes "-" ++ decimal (2 * half - n)

-- a truth value, a character or a number, by the number that its bytes are; those of a float in hexadecimal
unfoldable pub number_text : Element → ℕ → List ℕ
number_text Boolean n = if n == 0 then codes "false" else codes "true"
number_text I1 n = signed_text 0x80 n
number_text I2 n = signed_text 0x8000 n
number_text I4 n = signed_text 0x80000000 n
number_text I8 n = signed_text 0x8000000000000000 n
number_text R4 n = codes "0x" ++ hexadecimal 8 n
number_text R8 n = codes "0x" ++ hexadecimal 16 n
number_text _ n = decimal n

-- a string or the name of a type, which may be null
abbrev pub string_text : Option (List ℕ) → List ℕ
string_text None = codes "nullref"
string_text (Some t) = codes "\"" ++ (quoted_bytes t ++ codes "\"")

-- a value without its type
abbrev pub content_text : Scalar → List ℕ
content_text (number of n) = number_text of n
content_text (text t) = string_text t
content_text (type_name t) = string_text t

abbrev pub type_word : ElementType → List ℕ
type_word (Simple of) = element_text of
type_word SystemType = codes "type"

-- a value after its type
abbrev pub scalar_text : Scalar → List ℕ
scalar_text x = type_word (scalar_type x) ++ (codes "(" ++ (content_text x ++ codes ")"))

abbrev pub element_argument : Elem → List ℕ
element_argument (plain x) = scalar_text x
element_argument (boxed x) = codes "object(" ++ (scalar_text x ++ codes ")")

-- an element of an array, whose type precedes all elements; that of an object is its own
abbrev pub entry_text : Elem → List ℕ
entry_text (plain x) = content_text x
entry_text (boxed x) = scalar_text x

-- elements, a space between them
abbrev pub entries_text : List Elem → List ℕ
entries_text [] = []
entries_text (e ∷ []) = entry_text e
entries_text (e ∷ es) = entry_text e ++ (codes " " ++ entries_text es)

abbrev pub argument_text : Argument → List ℕ
argument_text (one e) = element_argument e
argument_text (vector of None) = type_word of ++ codes "[](nullref)"
argument_text (vector of (Some es)) =
    type_word of ++ (codes "[" ++ (decimal (length es) ++ (codes "](" ++ (entries_text es ++ codes ")"))))

abbrev pub type_text : ArgumentType → List ℕ
type_text (One of) = type_word of
type_text (Vector of) = type_word of ++ codes "[]"

abbrev pub member_word : Member → List ℕ
member_word Field = codes "field"
member_word Property = codes "property"

-- what precedes the value of a named argument
abbrev pub intro_text : Member → ArgumentType → List ℕ → List ℕ
intro_text member of name = codes " " ++ (member_word member ++ (codes " " ++ (type_text of ++ (codes " \"" ++ (quoted_bytes name ++ codes "\" = ")))))

-- each argument after a space
abbrev pub fixed_text : Argument → List ℕ
fixed_text a = codes " " ++ argument_text a

abbrev pub named_text : Named → List ℕ
named_text n = intro_text n.member (argument_type n.value) n.name ++ argument_text n.value

-- the fixed arguments, and then the named ones
abbrev pub value_text : AttributeValue → List ℕ
value_text v = flat_map fixed_text v.fixed ++ flat_map named_text v.named
