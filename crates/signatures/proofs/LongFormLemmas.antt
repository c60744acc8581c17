-- Blobs without a byte that begins a number that is longer than necessary: each number in them has its shortest form.
use Rattle.signatures.proofs.Prelude.{◌≡◌, ◌∙◌, ℕ, zero, suc, ◌+◌, ◌^◌, ◌<◌, ◌≤◌, ◌/◌, ◌%◌, false, true, List, [], ◌∷◌, ◌++◌, Some, inl, inr, refl, ap, sym, subst, arith, cond, ltb, ⊎_elim, lt-ltb, le-ltb, false_from_ne_true, ints}
use Rattle.std.specs.Prelude.{ℤ, pos, negsuc, slice_get, slice_index, ◌↔◌, ◌⊎◌, EachIndex}
use Rattle.std.specs.List.{flat_map, position_or_len}
use Rattle.packed.specs.Packed.{FitsBits, IsPacked, IsPackedSigned, fits_bits, four_bytes, one_byte, short_signed, short_unsigned, signed_bits, two_bytes}
use Rattle.table_schema.specs.declared.table.TableId.{TableId}
use Rattle.table_schema.specs.declared.table.TableId.TheVariants.{TypeDef, TypeRef, TypeSpec}
use Rattle.table_schema.specs.declared.token.Token.{Token}
use Rattle.table_schema.specs.declared.coded.Coded.TheVariants.{TypeDefOrRef}
use Rattle.table_schema.specs.CodedIndexes.{IsCoded, tables_of}
use Rattle.sig_grammar.specs.Parts.{EncodesPart, EncodesParts, Part, byte, number, signed, index, index_number, is_table, short_part}
use Rattle.signatures.specs.LongForms.{BeginsNoLongForm}

abbrev pub HasNoLongForm : List ℕ → Type 0
HasNoLongForm bytes = EachIndex bytes (λ k. BeginsNoLongForm (slice_index bytes k))

abbrev Fit : Type 0
Fit = (w : ℕ) (z : ℤ) → (fits_bits w z ≡ true) ↔ FitsBits w z

-- the first byte of such a blob
first_of : (first : ℕ) (tail bytes : List ℕ) → HasNoLongForm bytes → bytes ≡ first ∷ tail → BeginsNoLongForm first
first_of first tail bytes plain e = (subst HasNoLongForm e plain) 0 (omega arith)

short_unsigned_of : (n : ℕ) (bytes : List ℕ) → HasNoLongForm bytes → IsPacked n bytes → bytes ≡ short_unsigned n
short_unsigned_of n bytes plain (inl one) =
    one.1 ∙ ap (λ t. cond t (one_byte n) (cond (ltb n (2 ^ 14)) (two_bytes n) (four_bytes n))) (sym (lt-ltb n (2 ^ 7) one.0))
short_unsigned_of n bytes plain (inr (inl two)) =
    let first = (first_of (0x80 + n / 2 ^ 8) (n % 2 ^ 8 ∷ []) bytes plain two.1).0 in
    let large : 2 ^ 7 ≤ n = omega (arith) in
    rw (le-ltb n (2 ^ 7) large, lt-ltb n (2 ^ 14) two.0) two.1
short_unsigned_of n bytes plain (inr (inr four)) =
    let first = (first_of (0xC0 + n / 2 ^ 24) (n / 2 ^ 16 % 2 ^ 8 ∷ n / 2 ^ 8 % 2 ^ 8 ∷ n % 2 ^ 8 ∷ []) bytes plain four.1).2 in
    let large : 2 ^ 14 ≤ n = omega (arith) in
    let larger : 2 ^ 7 ≤ n = omega (arith) in
    rw (le-ltb n (2 ^ 7) larger, le-ltb n (2 ^ 14) large) four.1

-- a negative number, or another one, whose form of two bytes could be one byte, begins with 0xBF or 0x80
fourteen_of_seven : (z : ℤ) → FitsBits 7 z → (0x80 + signed_bits 14 z / 2 ^ 8 ≡ 0x80) ⊎ (0x80 + signed_bits 14 z / 2 ^ 8 ≡ 0xBF)
fourteen_of_seven (pos n) h = let k : n < 2 ^ 6 = (let a = h.high in omega (arith, ints)) in inl (omega arith)
fourteen_of_seven (negsuc n) h = let k : n < 2 ^ 6 = (let a = h.low in omega (arith, ints)) in inr (omega arith)

twenty_nine_of_fourteen : (z : ℤ) → FitsBits 14 z → (0xC0 + signed_bits 29 z / 2 ^ 24 ≡ 0xC0) ⊎ (0xC0 + signed_bits 29 z / 2 ^ 24 ≡ 0xDF)
twenty_nine_of_fourteen (pos n) h = let k : n < 2 ^ 13 = (let a = h.high in omega (arith, ints)) in inl (omega arith)
twenty_nine_of_fourteen (negsuc n) h = let k : n < 2 ^ 13 = (let a = h.low in omega (arith, ints)) in inr (omega arith)

fourteen_of_seven_more : (z : ℤ) → FitsBits 7 z → FitsBits 14 z
fourteen_of_seven_more (pos n) h = let a = h.high in record { low = omega (arith, ints); high = omega (arith, ints) }
fourteen_of_seven_more (negsuc n) h = let a = h.low in record { low = omega (arith, ints); high = omega (arith, ints) }

short_signed_of : Fit → (z : ℤ) (bytes : List ℕ) → HasNoLongForm bytes → IsPackedSigned z bytes → bytes ≡ short_signed z
short_signed_of fit z bytes plain (inl one) =
    one.1.1 ∙ ap (λ t. cond t (one_byte (signed_bits 7 z)) (cond (fits_bits 14 z) (two_bytes (signed_bits 14 z)) (four_bytes (signed_bits 29 z)))) (sym ((fit 7 z).1 one.0))
short_signed_of fit z bytes plain (inr (inl two)) =
    let u = signed_bits 14 z in
    let first = first_of (0x80 + u / 2 ^ 8) (u % 2 ^ 8 ∷ []) bytes plain two.1.1 in
    let no_seven : fits_bits 7 z ≡ false = false_from_ne_true (fits_bits 7 z) (λ e. ⊎_elim first.0 first.1 (fourteen_of_seven z ((fit 7 z).0 e))) in
    rw (no_seven, (fit 14 z).1 two.0) two.1.1
short_signed_of fit z bytes plain (inr (inr four)) =
    let u = signed_bits 29 z in
    let first = first_of (0xC0 + u / 2 ^ 24) (u / 2 ^ 16 % 2 ^ 8 ∷ u / 2 ^ 8 % 2 ^ 8 ∷ u % 2 ^ 8 ∷ []) bytes plain four.1.1 in
    let no : FitsBits 14 z → ⊥ = λ h. ⊎_elim first.2 first.3 (twenty_nine_of_fourteen z h) in
    let no_fourteen : fits_bits 14 z ≡ false = false_from_ne_true (fits_bits 14 z) (λ e. no ((fit 14 z).0 e)) in
    let no_seven : fits_bits 7 z ≡ false = false_from_ne_true (fits_bits 7 z) (λ e. no (fourteen_of_seven_more z ((fit 7 z).0 e))) in
    rw (no_seven, no_fourteen) four.1.1

listed_tag : (tag : ℕ) (table : TableId) → slice_get (tables_of TypeDefOrRef) tag ≡ Some (Some table) → position_or_len (is_table table) (tables_of TypeDefOrRef) ≡ tag
listed_tag zero table e = let same : TypeDef ≡ table = cc in rw (← same) refl
listed_tag (suc zero) table e = let same : TypeRef ≡ table = cc in rw (← same) refl
listed_tag (suc (suc zero)) table e = let same : TypeSpec ≡ table = cc in rw (← same) refl
listed_tag (suc (suc (suc tag))) table e = absurd cc

coded_number : (token : Token) (n : ℕ) → IsCoded TypeDefOrRef n token.table token.row → n ≡ index_number token
coded_number token n is =
    let same = listed_tag is.tag token.table is.listed in
    let equal = is.equal in
    omega arith

short_part_of : Fit → (part : Part) (bytes : List ℕ) → HasNoLongForm bytes → EncodesPart part bytes → bytes ≡ short_part part
short_part_of fit (byte c) bytes plain is = is
short_part_of fit (number n) bytes plain is = short_unsigned_of n bytes plain is
short_part_of fit (signed z) bytes plain is = short_signed_of fit z bytes plain is
short_part_of fit (index token) bytes plain is = short_unsigned_of is.number bytes plain is.packed ∙ ap short_unsigned (coded_number token is.number is.coded)

plain_prefix : (xs ys : List ℕ) → HasNoLongForm (xs ++ ys) → HasNoLongForm xs
plain_prefix [] ys plain k lt = absurd (omega arith)
plain_prefix (x ∷ xs) ys plain zero lt = plain 0 (omega arith)
plain_prefix (x ∷ xs) ys plain (suc k) lt = plain_prefix xs ys (λ i h. plain (suc i) (omega arith)) k (omega arith)

plain_back : (xs ys : List ℕ) → HasNoLongForm (xs ++ ys) → HasNoLongForm ys
plain_back [] ys plain = plain
plain_back (x ∷ xs) ys plain = plain_back xs ys (λ i h. plain (suc i) (omega arith))

pub short_parts_of : Fit → (parts : List Part) (bytes : List ℕ) → HasNoLongForm bytes → EncodesParts parts bytes → bytes ≡ flat_map short_part parts
short_parts_of fit [] bytes plain is = is
short_parts_of fit (part ∷ parts) bytes plain is =
    let both = subst HasNoLongForm is.2 plain in
    is.2 ∙ (λ i. short_part_of fit part is.0 (plain_prefix is.0 is.1 both) is.3 i ++ short_parts_of fit parts is.1 (plain_back is.0 is.1 both) is.4 i)
