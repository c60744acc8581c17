-- The items of a value, and the bytes of its blob.
use Rattle.blob_values.proofs.Prelude.{◌≡◌, ◌∙◌, ◌+◌, inl, inr, ℕ, suc, ◌≤◌, length-append, Some, None, List, [], ◌∷◌, ◌++◌, length, refl, ap, arith, IsNumber, IsPacked, Element, String, I, U, Object, ArgumentType, Elem, plain, boxed, Scalar, number, text, type_name, Argument, one, vector, Named, AttributeValue, argument_type, Part, byte, sized, value, string, IsPart, AreParts, IsAttributeValue, scalar_part, size_of, element_parts, argument_parts, named_parts, value_parts, type_parts, entries_of, fixed_items, named_items, items_of, entry, named_count}
use Rattle.std.specs.Prelude.{flat_map, map, IsSomeAnd}

-- bytes that a part has at least
abbrev least_of : Part → ℕ
least_of (byte c) = 1
least_of (sized count n) = count
least_of (value of n) = 1
least_of (string t) = 1

abbrev least : List Part → ℕ
least [] = 0
least (p ∷ ps) = least_of p + least ps

least_append : (ps qs : List Part) → least (ps ++ qs) ≡ least ps + least qs
least_append [] qs = omega arith
least_append (p ∷ ps) qs = let more = least_append ps qs in omega (arith, more)

number_long : (of : Element) (n : ℕ) (b : List ℕ) → IsSomeAnd (size_of of) (λ count. IsNumber count b n) → 1 ≤ length b
number_long String n b is = absurd is
number_long I n b is = absurd is
number_long U n b is = absurd is
number_long Object n b is = absurd is
number_long _ n b is = omega (arith, is.long)

packed_long : (n : ℕ) (prefix : List ℕ) → IsPacked n prefix → 1 ≤ length prefix
packed_long n prefix (inl is) = let long = ap length is.1 in omega (arith, long)
packed_long n prefix (inr (inl is)) = let long = ap length is.1 in omega (arith, long)
packed_long n prefix (inr (inr is)) = let long = ap length is.1 in omega (arith, long)

part_long : (p : Part) (b : List ℕ) → IsPart p b → least_of p ≤ length b
part_long (byte c) b is = let long = ap length is in omega (arith, long)
part_long (sized count n) b is = omega (arith, is.long)
part_long (value of n) b is = number_long of n b is.1
part_long (string None) b is = let long = ap length is in omega (arith, long)
part_long (string (Some t)) b is =
    let long = ap length is.1.2 ∙ length-append is.1.0 t in
    let first = packed_long (length t) is.1.0 is.1.1 in
    omega (arith, long, first)

parts_long : (ps : List Part) (b tail : List ℕ) → AreParts ps tail b → least ps ≤ length b
parts_long [] b tail are = omega arith
parts_long (p ∷ ps) b tail are =
    let long = ap length are.2 ∙ length-append are.0 are.1 in
    let first = part_long p are.0 are.3 in
    let more = parts_long ps are.1 tail are.4 in
    omega (arith, long, first, more)

-- ---- each item has a byte

scalar_least : (x : Scalar) → least_of (scalar_part x) ≡ 1
scalar_least (number of n) = refl
scalar_least (text t) = refl
scalar_least (type_name t) = refl

element_least : (e : Elem) → 1 ≤ least (element_parts e)
element_least (plain x) = let one = scalar_least x in omega (arith, one)
element_least (boxed x) = omega arith

entries_least : (es : List Elem) → length (map entry es) ≤ least (flat_map element_parts es)
entries_least [] = omega arith
entries_least (e ∷ es) =
    let first = element_least e in
    let more = entries_least es in
    let all = least_append (element_parts e) (flat_map element_parts es) in
    omega (arith, first, more, all)

argument_least : (a : Argument) → suc (length (entries_of a)) ≤ least (argument_parts a)
argument_least (one e) = element_least e
argument_least (vector of None) = omega arith
argument_least (vector of (Some es)) = let more = entries_least es in omega (arith, more)

fixed_least : (args : List Argument) → length (flat_map fixed_items args) ≤ least (flat_map argument_parts args)
fixed_least [] = omega arith
fixed_least (a ∷ args) =
    let first = argument_least a in
    let more = fixed_least args in
    let items = length-append (fixed_items a) (flat_map fixed_items args) in
    let parts = least_append (argument_parts a) (flat_map argument_parts args) in
    omega (arith, first, more, items, parts)

named_least : (ns : List Named) → length (flat_map named_items ns) ≤ least (flat_map named_parts ns)
named_least [] = omega arith
named_least (n ∷ ns) =
    let first = argument_least n.value in
    let more = named_least ns in
    let items = length-append (named_items n) (flat_map named_items ns) in
    let within = least_append (type_parts (argument_type n.value)) (string (Some n.name) ∷ argument_parts n.value) in
    let parts = least_append (named_parts n) (flat_map named_parts ns) in
    omega (arith, first, more, items, within, parts)

-- a value has no more items than its blob has bytes
pub few_items : (ofs : List ArgumentType) (v : AttributeValue) (b : List ℕ) → IsAttributeValue ofs v b → length (items_of v) ≤ length b
few_items ofs v b is =
    let fixed = fixed_least v.fixed in
    let named = named_least v.named in
    let items = length-append (flat_map fixed_items v.fixed) (named_count (length v.named) ∷ flat_map named_items v.named) in
    let parts = least_append (flat_map argument_parts v.fixed) (sized 2 (length v.named) ∷ flat_map named_parts v.named) in
    let long = parts_long (value_parts v) b [] is.parts in
    omega (arith, fixed, named, items, parts, long)
