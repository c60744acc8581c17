-- How many bytes the encoding of a signature has at most.
use Rattle.custom_attributes.proofs.Prelude.{◌≡◌, ◌∙◌, ◌≤◌, ◌*◌, ◌^◌, ℕ, Bool, true, false, inl, inr, Option, None, Some, List, [], ◌∷◌, ◌++◌, cond, length, nat_lt, ap, arith, flat_map, length-append, Item, items_of}
use Rattle.packed.specs.Packed.{IsPacked, one_byte, two_bytes, four_bytes, short_unsigned, signed_bits, fits_bits}
use Rattle.table_schema.specs.declared.column.SigKind.{SigKind}
use Rattle.sig_grammar.specs.Syntax.{Body}
use Rattle.sig_grammar.specs.Parts.{Part, byte, number, signed, index, index_number, short_part, EncodesPart, EncodesParts}
use Rattle.sig_grammar.specs.Grammar.{generic_parts, body_parts}
use Rattle.sig_grammar.specs.Encodes.{Encodes, short}
use Rattle.sig_items.specs.declared.item.Item.TheVariants as item
use Rattle.sig_items.specs.ItemParts.{item_parts, encoded_item}

-- ---- an encoding

packed_short : (n : ℕ) (b : List ℕ) → IsPacked n b → length b ≤ 4
packed_short n b (inl is) = let e : length b ≡ 1 = ap length is.1 in omega (arith, e)
packed_short n b (inr (inl is)) = let e : length b ≡ 2 = ap length is.1 in omega (arith, e)
packed_short n b (inr (inr is)) = let e : length b ≡ 4 = ap length is.1 in omega (arith, e)

part_short : (p : Part) (b : List ℕ) → EncodesPart p b → length b ≤ 4
part_short (byte c) b is = let e : length b ≡ 1 = ap length is in omega (arith, e)
part_short (number n) b is = packed_short n b is
part_short (signed z) b (inl is) = packed_short (signed_bits 7 z) b (inl is.1)
part_short (signed z) b (inr (inl is)) = packed_short (signed_bits 14 z) b (inr (inl is.1))
part_short (signed z) b (inr (inr is)) = packed_short (signed_bits 29 z) b (inr (inr is.1))
part_short (index token) b is = packed_short is.number b is.packed

parts_short : (ps : List Part) (b : List ℕ) → EncodesParts ps b → length b ≤ 4 * length ps
parts_short [] b is = let e : length b ≡ 0 = ap length is in omega (arith, e)
parts_short (p ∷ ps) b is =
    let e = ap length is.2 ∙ length-append is.0 is.1 in
    let first = part_short p is.0 is.3 in
    let later = parts_short ps is.1 is.4 in
    omega (arith, e, first, later)

-- ---- the canonical encoding

abbrev AreFew : List ℕ → Type 0
AreFew b = (1 ≤ length b) × (length b ≤ 4)

either : (t : Bool) (x y : List ℕ) → AreFew x → AreFew y → AreFew (cond t x y)
either true x y first second = first
either false x y first second = second

one : (n : ℕ) → AreFew (one_byte n)
one n = (omega arith, omega arith)

two : (n : ℕ) → AreFew (two_bytes n)
two n = (omega arith, omega arith)

four : (n : ℕ) → AreFew (four_bytes n)
four n = (omega arith, omega arith)

few_unsigned : (n : ℕ) → AreFew (short_unsigned n)
few_unsigned n = either (nat_lt n (2 ^ 7)) _ _ (one n) (either (nat_lt n (2 ^ 14)) _ _ (two n) (four n))

few_part : (p : Part) → AreFew (short_part p)
few_part (byte c) = one c
few_part (number n) = few_unsigned n
few_part (signed z) =
    either (fits_bits 7 z) _ _ (one (signed_bits 7 z)) (either (fits_bits 14 z) _ _ (two (signed_bits 14 z)) (four (signed_bits 29 z)))
few_part (index token) = few_unsigned (index_number token)

some_parts : (ps : List Part) → length ps ≤ length (flat_map short_part ps)
some_parts [] = omega arith
some_parts (p ∷ ps) =
    let e = length-append (short_part p) (flat_map short_part ps) in
    let first = (few_part p).0 in
    let later = some_parts ps in
    omega (arith, e, first, later)

few_parts : (ps : List Part) → length (flat_map short_part ps) ≤ 4 * length ps
few_parts [] = omega arith
few_parts (p ∷ ps) =
    let e = length-append (short_part p) (flat_map short_part ps) in
    let first = (few_part p).1 in
    let later = few_parts ps in
    omega (arith, e, first, later)

-- ---- items

head_parts : (generic : Option ℕ) (params : ℕ) → length (generic_parts generic ++ number params ∷ []) ≤ 2
head_parts None params = omega arith
head_parts (Some n) params = omega arith

few_of_item : (i : Item) → length (item_parts i) ≤ 4
few_of_item (item.Method head) = let few = head_parts head.generic head.params in omega (arith, few)
few_of_item _ = omega arith

few_items : (items : List Item) → length (flat_map encoded_item items) ≤ 16 * length items
few_items [] = omega arith
few_items (i ∷ items) =
    let e = length-append (encoded_item i) (flat_map encoded_item items) in
    let first = few_parts (item_parts i) in
    let parts = few_of_item i in
    let later = few_items items in
    omega (arith, e, first, parts, later)

pub short_encoding : (kind : SigKind) (s : Body) (b : List ℕ) → Encodes kind s b → flat_map encoded_item (items_of s) ≡ short s → length b ≤ 64 * length (items_of s)
short_encoding kind s b is same =
    let parts = parts_short (body_parts s) b is.parts in
    let some = some_parts (body_parts s) in
    let e = ap length same in
    let items = few_items (items_of s) in
    omega (arith, parts, some, e, items)
