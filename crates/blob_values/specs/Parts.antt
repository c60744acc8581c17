-- The blob of a value (ECMA-335 II.23.3), as parts that follow one another.
use Rattle.std.specs.Prelude.{◌≡◌, ◌≢◌, ℕ, nat_lt, Bool, true, false, Option, Some, None, List, [], ◌∷◌, ◌++◌, length, map, flat_map, IsUtf8, IsSomeAnd}
use Rattle.std.specs.List.{AllByRecursion}
use Rattle.packed.specs.Number.{IsNumber}
use Rattle.packed.specs.Packed.{IsPacked}
use Rattle.sig_grammar.specs.declared.element.Element.{Element}
use Rattle.sig_grammar.specs.declared.element.Element.TheVariants.{Boolean, Char, I1, U1, I2, U2, I4, U4, I8, U8, R4, R8, I, U, Object}
use Rattle.sig_grammar.specs.ElementTypes.{element_code, SZARRAY}
use Rattle.blob_values.specs.declared.types.ElementType.{ElementType}
use Rattle.blob_values.specs.declared.types.ElementType.TheVariants.{Simple, SystemType}
use Rattle.blob_values.specs.declared.types.ArgumentType.{ArgumentType}
use Rattle.blob_values.specs.declared.types.ArgumentType.TheVariants.{One, Vector}
use Rattle.blob_values.specs.declared.item.Member.{Member}
use Rattle.blob_values.specs.declared.item.Member.TheVariants.{Field, Property}
use Rattle.blob_values.specs.Values.{Scalar, number, text, type_name, Elem, plain, boxed, Argument, one, vector, Named, AttributeValue, scalar_type, element_type, argument_type}

-- a byte, a number in some bytes, a value of a type of fixed size, or a SerString
pub data Part : Type 0 where
  byte : ℕ → Part
  sized : (count n : ℕ) → Part
  value : Element → ℕ → Part
  string : Option (List ℕ) → Part

-- the number of bytes of a value, if the type has values of one size here
abbrev pub size_of : Element → Option ℕ
size_of Boolean = Some 1
size_of Char = Some 2
size_of I1 = Some 1
size_of U1 = Some 1
size_of I2 = Some 2
size_of U2 = Some 2
size_of I4 = Some 4
size_of U4 = Some 4
size_of I8 = Some 8
size_of U8 = Some 8
size_of R4 = Some 4
size_of R8 = Some 8
size_of _ = None

-- a truth value is 0 or 1; others may be any number
abbrev pub is_value : Element → ℕ → Bool
is_value Boolean n = nat_lt n 2
is_value _ n = true

-- the bytes encode the part; null is a string of the one byte 0xFF
abbrev pub IsPart : Part → List ℕ → Type 0
IsPart (byte c) bytes = bytes ≡ c ∷ []
IsPart (sized count n) bytes = IsNumber count bytes n
IsPart (value of n) bytes = (is_value of n ≡ true) × IsSomeAnd (size_of of) (λ count. IsNumber count bytes n)
IsPart (string None) bytes = bytes ≡ 0xFF ∷ []
IsPart (string (Some t)) bytes = IsUtf8 t × ((prefix : List ℕ) × IsPacked (length t) prefix × (bytes ≡ prefix ++ t))

-- the bytes are those of the parts, and then the tail
abbrev pub AreParts : List Part → List ℕ → List ℕ → Type 0
AreParts [] tail bytes = bytes ≡ tail
AreParts (part ∷ parts) tail bytes =
    (head : List ℕ) × (remainder : List ℕ) × (bytes ≡ head ++ remainder) × IsPart part head × AreParts parts tail remainder

-- FieldOrPropType: the code of a type; 0x50 and 0x51 are those of System.Type and of an object
abbrev pub code_of : ElementType → ℕ
code_of (Simple Object) = 0x51
code_of (Simple of) = element_code of
code_of SystemType = 0x50

abbrev pub type_parts : ArgumentType → List Part
type_parts (One of) = byte (code_of of) ∷ []
type_parts (Vector of) = byte SZARRAY ∷ byte (code_of of) ∷ []

abbrev pub scalar_part : Scalar → Part
scalar_part (number of n) = value of n
scalar_part (text t) = string t
scalar_part (type_name t) = string t

-- Elem: an object has the type of its value before it
abbrev pub element_parts : Elem → List Part
element_parts (plain x) = scalar_part x ∷ []
element_parts (boxed x) = byte (code_of (scalar_type x)) ∷ scalar_part x ∷ []

-- the number of elements that stands for null
abbrev pub null_count : ℕ
null_count = 0xFFFFFFFF

-- FixedArg
abbrev pub argument_parts : Argument → List Part
argument_parts (one e) = element_parts e
argument_parts (vector of None) = sized 4 null_count ∷ []
argument_parts (vector of (Some es)) = sized 4 (length es) ∷ flat_map element_parts es

abbrev pub member_code : Member → ℕ
member_code Field = 0x53
member_code Property = 0x54

-- NamedArg
abbrev pub named_parts : Named → List Part
named_parts n =
    byte (member_code n.member) ∷ (type_parts (argument_type n.value) ++ string (Some n.name) ∷ argument_parts n.value)

-- the prolog, the fixed arguments, the number of named arguments, and these
abbrev pub value_parts : AttributeValue → List Part
value_parts v = sized 2 1 ∷ (flat_map argument_parts v.fixed ++ sized 2 (length v.named) ∷ flat_map named_parts v.named)

-- native integers have no values here
abbrev pub has_values : ElementType → Bool
has_values (Simple I) = false
has_values (Simple U) = false
has_values _ = true

-- the elements of an array have its type, and their number is not the one that stands for null
abbrev pub AreElements : ElementType → Option (List Elem) → Type 0
AreElements of None = Unit {0}
AreElements of (Some es) = AllByRecursion (λ e. element_type e ≡ of) es × (length es ≢ null_count)

abbrev pub IsArgument : Argument → Type 0
IsArgument (one e) = Unit {0}
IsArgument (vector of es) = (has_values of ≡ true) × AreElements of es

-- the blob is that of the value, for a constructor with these types of parameters
pub record IsAttributeValue (params : List ArgumentType) (v : AttributeValue) (blob : List ℕ) : Type 0 where
  pub types : map argument_type v.fixed ≡ params
  pub fixed : AllByRecursion IsArgument v.fixed
  pub named : AllByRecursion (λ n. IsArgument n.value) v.named
  pub parts : AreParts (value_parts v) [] blob
