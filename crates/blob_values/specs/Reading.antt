-- Readers as functions on lists: each returns the first value and the remaining bytes. Private functions compute them.
-- It is proved that they read what the relation says, and nothing else.
use Rattle.std.specs.Prelude.{ℕ, zero, suc, ◌==◌, nat_lt, if◌then◌else◌, Option, Some, None, option_map, option_and_then, List, [], ◌∷◌, length, take, drop}
use Rattle.packed.specs.Number.{little_endian}
use Rattle.sig_grammar.specs.declared.element.Element.{Element}
use Rattle.sig_grammar.specs.declared.element.Element.TheVariants.{String, Object}
use Rattle.sig_grammar.specs.ElementTypes.{SZARRAY}
use Rattle.sig_grammar.specs.Reading.{Reader, change, element_of}
use Rattle.blob_values.specs.declared.types.ElementType.{ElementType}
use Rattle.blob_values.specs.declared.types.ElementType.TheVariants.{Simple, SystemType}
use Rattle.blob_values.specs.declared.types.ArgumentType.{ArgumentType}
use Rattle.blob_values.specs.declared.types.ArgumentType.TheVariants.{One, Vector}
use Rattle.blob_values.specs.declared.item.Member.{Member}
use Rattle.blob_values.specs.declared.item.Member.TheVariants.{Field, Property}
use Rattle.blob_values.specs.DescriptorReading.{text_at}
use Rattle.blob_values.specs.Values.{Scalar, number, text, type_name, Elem, plain, boxed}
use Rattle.blob_values.specs.Parts.{size_of, is_value, has_values, null_count}
use Rattle.blob_values.specs.Items.{Head, element, array, Item, fixed, entry, named_count, named}

unfoldable pub sized_at : ℕ → Reader ℕ
sized_at count b = if nat_lt (length b) count then None else Some (little_endian (take count b), drop count b)

unfoldable pub string_at : Reader (Option (List ℕ))
string_at [] = None
string_at (c ∷ b) =
    if c == 0xFF then Some (None, b) else option_map (λ x. (Some x.0, x.1)) (text_at (c ∷ b))

unfoldable pub bits_at : Element → Reader ℕ
bits_at of b = option_and_then (λ count. sized_at count b) (size_of of)

abbrev pub checked_value : Element → ℕ × List ℕ → Option (Scalar × List ℕ)
checked_value of x = if is_value of x.0 then Some (number of x.0, x.1) else None

unfoldable pub number_at : Element → Reader Scalar
number_at of b = option_and_then (checked_value of) (bits_at of b)

unfoldable pub scalar_at : ElementType → Reader Scalar
scalar_at (Simple String) b = change (λ t. text t) string_at b
scalar_at (Simple of) b = number_at of b
scalar_at SystemType b = change (λ t. type_name t) string_at b

-- the type with this code
unfoldable pub type_of : ℕ → Option ElementType
type_of c =
    if c == 0x50 then Some SystemType else if c == 0x51 then Some (Simple Object)
    else if nat_lt c 0x0F then option_map (λ of. Simple of) (element_of c) else None

abbrev pub first_type : Reader ElementType
first_type [] = None
first_type (c ∷ b) = option_map (λ of. (of, b)) (type_of c)

unfoldable pub element_at : ElementType → Reader Elem
element_at (Simple Object) b = option_and_then (λ x. change (λ v. boxed v) (scalar_at x.0) x.1) (first_type b)
element_at of b = change (λ v. plain v) (scalar_at of) b

unfoldable pub argument_type_at : Reader ArgumentType
argument_type_at [] = None
argument_type_at (c ∷ b) = if c == SZARRAY then change (λ of. Vector of) first_type b else change (λ of. One of) first_type (c ∷ b)

abbrev pub count_of : ℕ → Option ℕ
count_of n = if n == null_count then None else Some n

-- an argument without the elements of its array
unfoldable pub head_at : ArgumentType → Reader Head
head_at (One of) b = change (λ e. element e) (element_at of) b
head_at (Vector of) b = if has_values of then change (λ n. array of (count_of n)) (sized_at 4) b else None

unfoldable pub member_of : ℕ → Option Member
member_of c = if c == 0x53 then Some Field else if c == 0x54 then Some Property else None

abbrev pub member_at : Reader Member
member_at [] = None
member_at (c ∷ b) = option_map (λ m. (m, b)) (member_of c)

-- what precedes the value of a named argument
pub record Intro : Type 0 where
  pub member : Member
  pub of : ArgumentType
  pub name : List ℕ

abbrev pub named_by : Member → ArgumentType → Option (List ℕ) × List ℕ → Option (Intro × List ℕ)
named_by m of (None, b) = None
named_by m of (Some name, b) = Some (record { member = m; of = of; name = name }, b)

unfoldable pub intro_at : Reader Intro
intro_at b =
    option_and_then (λ m. option_and_then (λ of. option_and_then (named_by m.0 of.0) (string_at of.1)) (argument_type_at m.1)) (member_at b)

-- ---- the items that remain

abbrev pub Reporter : Type 0
Reporter = Reader (List Item)

abbrev pub item_then : Item → Option (List Item × List ℕ) → Option (List Item × List ℕ)
item_then i reported = option_map (λ x. (i ∷ x.0, x.1)) reported

-- the elements of an array, and what follows
unfoldable pub entries_at : ElementType → ℕ → Reporter → Reporter
entries_at of zero next b = next b
entries_at of (suc n) next b = option_and_then (λ x. item_then (entry x.0) (entries_at of n next x.1)) (element_at of b)

-- what follows an argument: the elements of its array, if it is one
unfoldable pub after : Head → Reporter → Reporter
after (element e) next = next
after (array of None) next = next
after (array of (Some n)) next = entries_at of n next

-- an argument, and what follows
unfoldable pub argument_at : (Head → Item) → ArgumentType → Reporter → Reporter
argument_at item of next b = option_and_then (λ x. item_then (item x.0) (after x.0 next x.1)) (head_at of b)

unfoldable pub named_left : ℕ → Reporter
named_left zero b = Some ([], b)
named_left (suc n) b = option_and_then (λ x. argument_at (named x.0.member x.0.name) x.0.of (named_left n) x.1) (intro_at b)

unfoldable pub fixed_left : List ArgumentType → Reporter
fixed_left [] b = option_and_then (λ x. item_then (named_count x.0) (named_left x.0 x.1)) (sized_at 2 b)
fixed_left (of ∷ ofs) b = argument_at fixed of (fixed_left ofs) b
