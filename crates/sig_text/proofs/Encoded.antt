-- What is shown of the bytes that encode a value is its text.
use Rattle.sig_text.proofs.Prelude.{◌≡◌, ◌∙◌, ℕ, zero, suc, ◌+◌, ◌≤◌, ◌*◌, ◌<◌, ◌%◌, ◌/◌, Bool, true, false, eqb, if◌then◌else◌, Option, Some, None, is_some, List, [], ◌∷◌, ◌++◌, length, drop, map, refl, ap, append_assoc, length-append, arith, inl, inr, Element, Prefix, Mod, Pinned, Part, byte, number, signed, index, EncodesPart, EncodesParts, modifier_parts, modifiers_parts, prefix_parts, prefixes_parts, numbers_parts, bounds_parts, shape_parts, generic_parts, method_code, flag, named_code, count_types, count_slots, core_parts, typed_parts, types_parts, content_parts, slot_parts, slots_parts, ret_parts, method_parts, core_depth, typed_depth, types_depth, content_depth, slot_depth, slots_depth, ret_depth, method_depth, IsArrayShape, IsMethodKind, IsCore, IsTyped, AreTypes, IsContent, IsSlot, AreSlots, IsRet, IsMethod, number_at, signed_at, index_at, token_of, modifier_at, prefix_at, starts_prefix, head_is, element_of, Core, simple, void_pointer, pointer, vector, array, class, value, var, mvar, instance, function, Typed, typed, Types, no_types, type_then, Content, typed_ref, plain, by_ref, Slot, slot, Slots, no_slots, slot_then, Ret, some_ret, void_ret, Method, method, ArrayShape, Piece, word, comma, following, modifier_text, modifiers_text, prefix_text, element_text, dimensions_text, written_dimensions, shape_text, core_text, typed_text, types_text, content_text, slot_text, slots_text, ret_text, method_text, CoreShown, byte_or, number_or, signed_or, index_or, mark_at, marks_in, marks_of, numbers_behind, next_of, dimensions_shown, shape_shown, named_shown, parameter_shown, by_ref_shown, content_shown, slot_shown, listed_shown, enclosed_shown, instance_shown, generic_or, method_shown, after_element_shown, around_shown, code_shown, core_shown}
use Rattle.std.specs.Prelude.{ℤ, pos, slice_get, codes}
use Rattle.std.proofs.lemmas.Bool.Decides.{nat_tests}
use Rattle.std.specs.Option.{unwrap_or}
use Rattle.std.proofs.lemmas.List.{length-drop}
use Rattle.std.proofs.Math.Seq.{drop-append_seam}
use Rattle.packed.specs.Packed.{IsPacked, IsPackedSigned}
use Rattle.packed.specs.Prefix as head
use Rattle.table_schema.specs.CodedIndexes.{IsCoded}
use Rattle.table_schema.specs.declared.coded.Coded.TheVariants.{TypeDefOrRef}
use Rattle.table_schema.specs.declared.table.TableId.TheVariants.{TypeDef}
use Rattle.table_schema.specs.declared.token.Token.{Token}
use Rattle.sig_grammar.specs.declared.element.Element.TheVariants.{Boolean}
use Rattle.sig_grammar.specs.declared.types.Modifier.{Modifier}
use Rattle.sig_grammar.specs.ElementTypes.{element_code}
use Rattle.sig_text.proofs.MarksShown.{none_in, mark_none}

-- ---- parts at the start

-- the parts encode the bytes before the remainder
abbrev pub Head : List Part → List ℕ → List ℕ → Type 0
Head [] b remainder = b ≡ remainder
Head (p ∷ ps) b remainder = (x mid : List ℕ) × (b ≡ x ++ mid) × EncodesPart p x × Head ps mid remainder

pub whole_head : (ps : List Part) (b : List ℕ) → EncodesParts ps b → Head ps b []
whole_head [] b e = e
whole_head (p ∷ ps) b f = (f.0, f.1, f.2, f.3, whole_head ps f.1 f.4)

pub split_head : (ps qs : List Part) (b remainder : List ℕ) → Head (ps ++ qs) b remainder → (mid : List ℕ) × Head ps b mid × Head qs mid remainder
split_head [] qs b remainder h = (b, refl, h)
split_head (p ∷ ps) qs b remainder f = let s = split_head ps qs f.1 remainder f.4 in (s.0, (f.0, f.1, f.2, f.3, s.1), s.2)

pub first_byte : (c : ℕ) (ps : List Part) (b remainder : List ℕ) → Head (byte c ∷ ps) b remainder → (tail : List ℕ) × (b ≡ c ∷ tail) × Head ps tail remainder
first_byte c ps b remainder f = (f.1, rw (f.2, f.3) refl, f.4)

head_length : (ps : List Part) (b remainder : List ℕ) → Head ps b remainder → length remainder ≤ length b
head_length [] b remainder e = omega (arith, ap length e)
head_length (p ∷ ps) b remainder f = omega (arith, ap length f.2, length-append f.0 f.1, head_length ps f.1 remainder f.4)

-- numbers and type indexes at the start are read as they are encoded
pub record NumbersAreRead : Type 0 where
  pub unsigned : (n : ℕ) (x tail : List ℕ) → IsPacked n x → head.unsigned_at (x ++ tail) ≡ Some (n, length x)
  pub signed : (z : ℤ) (x tail : List ℕ) → IsPackedSigned z x → head.signed_at (x ++ tail) ≡ Some (z, length x)
  pub tokens : (n : ℕ) (token : Token) → IsCoded TypeDefOrRef n token.table token.row → token_of n ≡ Some token

-- ---- the first byte of a method

bit_is : (x : ℕ) (set : Bool) → x ≡ flag set 1 → eqb x 1 ≡ set
bit_is x true e = rw e refl
bit_is x false e = rw e refl

flag_is : (set : Bool) (n : ℕ) → (flag set n ≡ flag set 1 * n) × (flag set 1 < 2)
flag_is true n = (omega arith, omega arith)
flag_is false n = (omega arith, omega arith)

code_bits : (kind : ℕ) (generic this explicit : Bool) → kind < 16 → let c = kind + flag generic 0x10 + flag this 0x20 + flag explicit 0x40 in (c % 16 ≡ kind) × (eqb (c / 16 % 2) 1 ≡ generic) × (eqb (c / 32 % 2) 1 ≡ this) × (eqb (c / 64 % 2) 1 ≡ explicit)
code_bits kind generic this explicit lt =
    let g = flag_is generic 0x10 in
    let t = flag_is this 0x20 in
    let e = flag_is explicit 0x40 in
    (omega arith, bit_is _ generic (omega arith), bit_is _ this (omega arith), bit_is _ explicit (omega arith))

pub kind_few : (kind : ℕ) → IsMethodKind kind → kind < 16
kind_few kind (inl h) = omega arith
kind_few kind (inr h) = omega arith

-- ---- what is shown of the bytes of a type

-- a type, or VOID, begins here: no modifier, PINNED or SENTINEL
abbrev pub Begins : List ℕ → Type 0
Begins b = (starts_prefix b ≡ false) × (head_is 0x41 b ≡ false)

abbrev pub ReadsContent : CoreShown → List Part → List Piece → List ℕ → Type 0
ReadsContent core parts text remainder = (b : List ℕ) → Head parts b remainder → Begins b × (content_shown core b ≡ (text, remainder))

-- a type with its modifiers begins here, and it is shown
abbrev pub ReadsSlot : CoreShown → List ℕ → List Piece → List ℕ → Type 0
ReadsSlot core b text remainder = (head_is 0x41 b ≡ false) × (slot_shown core b ≡ (text, remainder))

-- what is known of the bytes of a type without modifiers
abbrev pub ReadsCore : ℕ → List ℕ → List Piece → List ℕ → Type 0
ReadsCore d b text remainder = Begins b × (head_is 0x10 b ≡ false) × (core_shown d (byte_or b).0 (byte_or b).1 ≡ (text, remainder))

-- the first byte of a method, and the number of its generic parameters
pub record IsHead (k : ℕ) (t e : Bool) (g : Option ℕ) (qs : List Part) (b remainder : List ℕ) : Type 0 where
  pub code : ℕ
  pub tail : List ℕ
  pub after : List ℕ
  pub bytes : b ≡ code ∷ tail
  pub kind : code % 16 ≡ k
  pub this : eqb (code / 32 % 2) 1 ≡ t
  pub explicit : eqb (code / 64 % 2) 1 ≡ e
  pub generic : generic_or code tail ≡ (g, after)
  pub more : Head qs after remainder

module _ (known : NumbersAreRead) where
  number_first : (n : ℕ) (x tail : List ℕ) → IsPacked n x → number_at (x ++ tail) ≡ Some (n, tail)
  unfolding number_at
  number_first n x tail is = rw (known.unsigned n x tail is, drop-append_seam x tail) refl

  pub first_number : (n : ℕ) (ps : List Part) (b remainder : List ℕ) → Head (number n ∷ ps) b remainder → (tail : List ℕ) × (number_or b ≡ (n, tail)) × Head ps tail remainder
  first_number n ps b remainder f = (f.1, rw f.2 (ap (λ (o : Option (ℕ × List ℕ)). unwrap_or o (0, f.0 ++ f.1)) (number_first n f.0 f.1 f.3)), f.4)

  signed_first : (z : ℤ) (x tail : List ℕ) → IsPackedSigned z x → signed_at (x ++ tail) ≡ Some (z, tail)
  unfolding signed_at
  signed_first z x tail is = rw (known.signed z x tail is, drop-append_seam x tail) refl

  first_signed : (z : ℤ) (ps : List Part) (b remainder : List ℕ) → Head (signed z ∷ ps) b remainder → (tail : List ℕ) × (signed_or b ≡ (z, tail)) × Head ps tail remainder
  first_signed z ps b remainder f = (f.1, rw f.2 (ap (λ (o : Option (ℤ × List ℕ)). unwrap_or o (pos 0, f.0 ++ f.1)) (signed_first z f.0 f.1 f.3)), f.4)

  first_index : (t : Token) (ps : List Part) (b remainder : List ℕ) → Head (index t ∷ ps) b remainder → (tail : List ℕ) × (index_at b ≡ Some (t, tail)) × Head ps tail remainder
  unfolding index_at
  first_index t ps b remainder f = (f.1, rw (f.2, number_first f.3.number f.0 f.1 f.3.packed, known.tokens f.3.number t f.3.coded) refl, f.4)

  first_name : (t : Token) (ps : List Part) (b remainder : List ℕ) → Head (index t ∷ ps) b remainder → (tail : List ℕ) × (index_or b ≡ (t, tail)) × Head ps tail remainder
  first_name t ps b remainder f = let x = first_index t ps b remainder f in (x.0, ap (λ (o : Option (Token × List ℕ)). unwrap_or o (record { table = TypeDef; row = 0 }, b)) x.1, x.2)

  -- ---- modifiers and PINNED

  first_modifier : (required : Bool) (of : Token) (b remainder : List ℕ) → Head (modifier_parts (record { required = required; of = of })) b remainder → mark_at b ≡ Some (Mod (record { required = required; of = of }), remainder)
  unfolding mark_at prefix_at modifier_at
  first_modifier true of b remainder h = let f = first_byte 0x1F (index of ∷ []) b remainder h in let i = first_index of [] f.0 remainder f.2 in rw (f.1, i.1, i.2) refl
  first_modifier false of b remainder h = let f = first_byte 0x20 (index of ∷ []) b remainder h in let i = first_index of [] f.0 remainder f.2 in rw (f.1, i.1, i.2) refl

  first_prefix : (p : Prefix) (b remainder : List ℕ) → Head (prefix_parts p) b remainder → mark_at b ≡ Some (p, remainder)
  unfolding mark_at prefix_at
  first_prefix (Mod m) b remainder h = first_modifier m.required m.of b remainder h
  first_prefix Pinned b remainder h = let f = first_byte 0x45 [] b remainder h in rw (f.1, f.2) refl

  prefix_length : (p : Prefix) (b remainder : List ℕ) → Head (prefix_parts p) b remainder → length remainder < length b
  prefix_length (Mod m) b remainder h = let f = first_byte _ (index m.of ∷ []) b remainder h in omega (arith, ap length f.1, head_length (index m.of ∷ []) f.0 remainder f.2)
  prefix_length Pinned b remainder h = let f = first_byte 0x45 [] b remainder h in omega (arith, ap length f.1, head_length [] f.0 remainder f.2)

  prefixes_length : (ps : List Prefix) (b remainder : List ℕ) → Head (prefixes_parts ps) b remainder → length ps ≤ length b
  prefixes_length [] b remainder h = omega arith
  prefixes_length (p ∷ ps) b remainder h = let s = split_head (prefix_parts p) (prefixes_parts ps) b remainder h in omega (arith, prefix_length p b s.0 s.1, prefixes_length ps s.0 remainder s.2)

  marks_within : (ps : List Prefix) (k : ℕ) (b remainder : List ℕ) → length ps ≤ k → starts_prefix remainder ≡ false → Head (prefixes_parts ps) b remainder → marks_in k b ≡ (ps, remainder)
  unfolding marks_in
  marks_within [] k b remainder le e h = rw h (none_in k remainder (mark_none remainder e))
  marks_within (p ∷ ps) zero b remainder le e h = absurd (omega arith)
  marks_within (p ∷ ps) (suc k) b remainder le e h =
      let s = split_head (prefix_parts p) (prefixes_parts ps) b remainder h in
      let first = first_prefix p b s.0 s.1 in
      let more = marks_within ps k s.0 remainder (omega arith) e s.2 in
      rw (first, more) refl

  marks_are : (ps : List Prefix) (b remainder : List ℕ) → starts_prefix remainder ≡ false → Head (prefixes_parts ps) b remainder → marks_of b ≡ (ps, remainder)
  unfolding marks_of
  marks_are ps b remainder e h = marks_within ps (length b) b remainder (prefixes_length ps b remainder h) e h

  code_unmarked : (required : Bool) → eqb (if required then 0x1F else 0x20) 0x41 ≡ false
  code_unmarked true = refl
  code_unmarked false = refl

  unmarked : (ps : List Prefix) (b remainder : List ℕ) → head_is 0x41 remainder ≡ false → Head (prefixes_parts ps) b remainder → head_is 0x41 b ≡ false
  unmarked [] b remainder e h = rw h e
  unmarked (Pinned ∷ ps) b remainder e h = let f = first_byte 0x45 (prefixes_parts ps) b remainder h in rw f.1 refl
  unmarked (Mod m ∷ ps) b remainder e h = let f = first_byte _ (index m.of ∷ prefixes_parts ps) b remainder h in rw f.1 (code_unmarked m.required)

  as_prefixes : (ms : List Modifier) → modifiers_parts ms ≡ prefixes_parts (map Mod ms)
  as_prefixes [] = refl
  as_prefixes (m ∷ ms) = ap (λ (t : List Part). modifier_parts m ++ t) (as_prefixes ms)

  following_modifiers : (ms : List Modifier) → following prefix_text (map Mod ms) ≡ modifiers_text ms
  following_modifiers [] = refl
  following_modifiers (m ∷ ms) = ap (λ (t : List Piece). t ++ modifier_text m) (following_modifiers ms)

  -- ---- the shape of an array

  sizes_behind : (ns : List ℕ) (b remainder : List ℕ) → Head (numbers_parts ns) b remainder → numbers_behind (length ns) b ≡ remainder
  unfolding numbers_behind
  sizes_behind [] b remainder h = h
  sizes_behind (n ∷ ns) b remainder h = let x = first_number n (numbers_parts ns) b remainder h in ap (λ (t : ℕ × List ℕ). numbers_behind (length ns) t.1) x.1 ∙ sizes_behind ns x.0 remainder x.2

  next_size : (ns : List ℕ) (b remainder : List ℕ) → Head (numbers_parts ns) b remainder → (tail : List ℕ) × (next_of number_or (length ns, b) ≡ (slice_get ns 0, (length (drop 1 ns), tail))) × Head (numbers_parts (drop 1 ns)) tail remainder
  unfolding next_of
  next_size [] b remainder h = (b, refl, h)
  next_size (n ∷ ns) b remainder h = let x = first_number n (numbers_parts ns) b remainder h in (x.0, rw x.1 refl, x.2)

  next_low : (zs : List ℤ) (b remainder : List ℕ) → Head (bounds_parts zs) b remainder → (tail : List ℕ) × (next_of signed_or (length zs, b) ≡ (slice_get zs 0, (length (drop 1 zs), tail))) × Head (bounds_parts (drop 1 zs)) tail remainder
  unfolding next_of
  next_low [] b remainder h = (b, refl, h)
  next_low (z ∷ zs) b remainder h = let x = first_signed z (bounds_parts zs) b remainder h in (x.0, rw x.1 refl, x.2)

  dimensions_read : (n : ℕ) (before : List Piece) (ns : List ℕ) (zs : List ℤ) (s l c remainder : List ℕ) → Head (numbers_parts ns) s c → Head (bounds_parts zs) l remainder → length zs ≤ n → dimensions_shown before n (length ns, s) (length zs, l) ≡ (dimensions_text before n ns zs, remainder)
  unfolding dimensions_shown
  dimensions_read zero before ns [] s l c remainder g h le = ap (λ (t : List ℕ). ([], t)) h
  dimensions_read zero before ns (z ∷ zs) s l c remainder g h le = absurd (omega arith)
  dimensions_read (suc n) before ns zs s l c remainder g h le =
      let p = next_size ns s c g in
      let q = next_low zs l remainder h in
      let more = dimensions_read n (word (codes ",") ∷ []) (drop 1 ns) (drop 1 zs) p.0 q.0 c remainder p.2 q.2 (omega (arith, length-drop 1 zs)) in
      rw (p.1, q.1, more) refl

  -- each dimension with a lower bound is written
  low_written : (rank sizes low : ℕ) → low ≤ rank → low ≤ written_dimensions rank sizes low
  low_written rank sizes low h = grind (arith, nat_tests)

  shape_read : (s : ArrayShape) (b remainder : List ℕ) → IsArrayShape s → Head (shape_parts s) b remainder → shape_shown b ≡ (shape_text s, remainder)
  unfolding shape_shown
  shape_read s b remainder is h =
      let rank = first_number s.rank (number (length s.sizes) ∷ (numbers_parts s.sizes ++ number (length s.low) ∷ bounds_parts s.low)) b remainder h in
      let sizes = first_number (length s.sizes) (numbers_parts s.sizes ++ number (length s.low) ∷ bounds_parts s.low) rank.0 remainder rank.2 in
      let mid = split_head (numbers_parts s.sizes) (number (length s.low) ∷ bounds_parts s.low) sizes.0 remainder sizes.2 in
      let behind = sizes_behind s.sizes sizes.0 mid.0 mid.1 in
      let low = first_number (length s.low) (bounds_parts s.low) mid.0 remainder mid.2 in
      let all = dimensions_read (written_dimensions s.rank (length s.sizes) (length s.low)) [] s.sizes s.low sizes.0 low.0 mid.0 remainder mid.1 low.2 (low_written s.rank (length s.sizes) (length s.low) is.2) in
      rw (rank.1, sizes.1, behind, low.1, all) refl

  -- ---- types after their modifiers

  pub led : (core : CoreShown) (ps : List Prefix) (qs : List Part) (text : List Piece) (b remainder : List ℕ) → ReadsContent core qs text remainder → Head (prefixes_parts ps ++ qs) b remainder → ReadsSlot core b (text ++ following prefix_text ps) remainder
  unfolding slot_shown
  led core ps qs text b remainder each h =
      let s = split_head (prefixes_parts ps) qs b remainder h in
      let x = each s.0 s.2 in
      let marks = marks_are ps b s.0 x.0.0 s.1 in
      (unmarked ps b s.0 x.0.1 s.1, rw (marks, x.1) refl)

  led_modifiers : (core : CoreShown) (ms : List Modifier) (qs : List Part) (text : List Piece) (b remainder : List ℕ) → ReadsContent core qs text remainder → Head (modifiers_parts ms ++ qs) b remainder → ReadsSlot core b (text ++ modifiers_text ms) remainder
  led_modifiers core ms qs text b remainder each h =
      let x = led core (map Mod ms) qs text b remainder each (rw (← as_prefixes ms) h) in
      (x.0, x.1 ∙ ap (λ (t : List Piece). (text ++ t, remainder)) (following_modifiers ms))

  content_bare : (core : CoreShown) (b : List ℕ) → head_is 0x10 b ≡ false → content_shown core b ≡ core (byte_or b).0 (byte_or b).1
  unfolding content_shown
  content_bare core [] e = refl
  content_bare core (c ∷ b) e = rw e refl

  plain_content : (d : ℕ) (b : List ℕ) (text : List Piece) (remainder : List ℕ) → ReadsCore d b text remainder → Begins b × (content_shown (core_shown d) b ≡ (text, remainder))
  plain_content d b text remainder x = (x.0, content_bare (core_shown d) b x.1 ∙ x.2)

  simple_read : (d : ℕ) (e : Element) (remainder : List ℕ) → ReadsCore (suc d) (element_code e ∷ remainder) (word (element_text e) ∷ []) remainder
  unfolding core_shown element_of
  simple_read d Boolean remainder = ((refl, refl), refl, refl)
  simple_read d _ remainder = ((refl, refl), refl, refl)

  void_read : (d : ℕ) (remainder : List ℕ) → 1 ≤ d → ReadsContent (core_shown d) (byte 0x01 ∷ []) (word (codes "void") ∷ []) remainder
  unfolding content_shown core_shown code_shown element_of
  void_read zero remainder le b h = absurd (omega arith)
  void_read (suc d) remainder le b h = let f = first_byte 0x01 [] b remainder h in rw (f.1, f.2) ((refl, refl), refl)

  named_is : (is_value : Bool) → eqb (named_code is_value) 0x11 ≡ is_value
  named_is true = refl
  named_is false = refl

  generic_read : (c : ℕ) (generic : Option ℕ) (qs : List Part) (b remainder : List ℕ) → eqb (c / 16 % 2) 1 ≡ is_some generic → Head (generic_parts generic ++ qs) b remainder → (mid : List ℕ) × (generic_or c b ≡ (generic, mid)) × Head qs mid remainder
  unfolding generic_or
  generic_read c None qs b remainder e h = (b, rw e refl, h)
  generic_read c (Some n) qs b remainder e h = let x = first_number n qs b remainder h in (x.0, rw (e, x.1) refl, x.2)

  pub method_head : (kind : ℕ) (this explicit : Bool) (generic : Option ℕ) (qs : List Part) (b remainder : List ℕ) → kind < 16 → Head (byte (method_code kind this explicit generic) ∷ (generic_parts generic ++ qs)) b remainder → IsHead kind this explicit generic qs b remainder
  method_head kind this explicit generic qs b remainder is h =
      let f = first_byte (method_code kind this explicit generic) (generic_parts generic ++ qs) b remainder h in
      let bits = code_bits kind (is_some generic) this explicit is in
      let g = generic_read (method_code kind this explicit generic) generic qs f.0 remainder bits.1 f.2 in
      record { code = method_code kind this explicit generic; tail = f.0; after = g.0; bytes = f.1; kind = bits.0; this = bits.2; explicit = bits.3; generic = g.1; more = g.2 }

  core_some : (c : Core) → 1 ≤ core_depth c
  core_some (pointer ms to) = omega arith
  core_some (vector of) = omega arith
  core_some (array of shape) = omega arith
  core_some (instance is_value of args) = omega arith
  core_some (function m) = omega arith
  core_some _ = omega arith

  mutual
    unfolding core_shown code_shown around_shown after_element_shown named_shown parameter_shown instance_shown enclosed_shown listed_shown content_shown by_ref_shown method_shown element_of

    core_read : (c : Core) (d : ℕ) (b remainder : List ℕ) → core_depth c ≤ d → IsCore c → Head (core_parts c) b remainder → ReadsCore d b (core_text c) remainder
    core_read c zero b remainder le is h = absurd (omega (arith, core_some c))
    core_read (simple e) (suc d) b remainder le is h = let f = first_byte (element_code e) [] b remainder h in rw (f.1, f.2) (simple_read d e remainder)
    core_read (void_pointer ms) (suc d) b remainder le is h =
        let f = first_byte 0x0F (modifiers_parts ms ++ byte 0x01 ∷ []) b remainder h in
        let of = led_modifiers (core_shown d) ms (byte 0x01 ∷ []) (word (codes "void") ∷ []) f.0 remainder (void_read d remainder (omega arith)) f.2 in
        rw f.1 ((refl, refl), refl, rw of.1 refl)
    core_read (pointer ms to) (suc d) b remainder le is h =
        let f = first_byte 0x0F (modifiers_parts ms ++ core_parts to) b remainder h in
        let of = led_modifiers (core_shown d) ms (core_parts to) (core_text to) f.0 remainder (λ m g. plain_content d m (core_text to) remainder (core_read to d m remainder (omega arith) is g)) f.2 in
        rw f.1 ((refl, refl), refl, rw of.1 (ap (λ (t : List Piece). (t, remainder)) (append_assoc (core_text to) (modifiers_text ms) (word (codes "*") ∷ []))))
    core_read (vector of) (suc d) b remainder le is h =
        let f = first_byte 0x1D (typed_parts of) b remainder h in
        let x = typed_read of d f.0 remainder (omega arith) is f.2 in
        rw f.1 ((refl, refl), refl, rw x.1 refl)
    core_read (array of shape) (suc d) b remainder le is h =
        let f = first_byte 0x14 (typed_parts of ++ shape_parts shape) b remainder h in
        let s = split_head (typed_parts of) (shape_parts shape) f.0 remainder f.2 in
        let x = typed_read of d f.0 s.0 (omega arith) is.0 s.1 in
        let y = shape_read shape s.0 remainder is.1 s.2 in
        rw f.1 ((refl, refl), refl, rw (x.1, y) refl)
    core_read (class of) (suc d) b remainder le is h =
        let f = first_byte 0x12 (index of ∷ []) b remainder h in let x = first_name of [] f.0 remainder f.2 in rw f.1 ((refl, refl), refl, rw (x.1, x.2) refl)
    core_read (value of) (suc d) b remainder le is h =
        let f = first_byte 0x11 (index of ∷ []) b remainder h in let x = first_name of [] f.0 remainder f.2 in rw f.1 ((refl, refl), refl, rw (x.1, x.2) refl)
    core_read (var n) (suc d) b remainder le is h =
        let f = first_byte 0x13 (number n ∷ []) b remainder h in let x = first_number n [] f.0 remainder f.2 in rw f.1 ((refl, refl), refl, rw (x.1, x.2) refl)
    core_read (mvar n) (suc d) b remainder le is h =
        let f = first_byte 0x1E (number n ∷ []) b remainder h in let x = first_number n [] f.0 remainder f.2 in rw f.1 ((refl, refl), refl, rw (x.1, x.2) refl)
    core_read (instance is_value of args) (suc d) b remainder le is h =
        let f = first_byte 0x15 (byte (named_code is_value) ∷ index of ∷ number (count_types args) ∷ types_parts args) b remainder h in
        let kind = first_byte (named_code is_value) (index of ∷ number (count_types args) ∷ types_parts args) f.0 remainder f.2 in
        let name = first_name of (number (count_types args) ∷ types_parts args) kind.0 remainder kind.2 in
        let count = first_number (count_types args) (types_parts args) name.0 remainder name.2 in
        let all = types_read args d [] count.0 remainder (omega arith) is count.2 in
        rw f.1 ((refl, refl), refl, rw (kind.1, named_is is_value, name.1, count.1, all) refl)
    core_read (function m) (suc d) b remainder le is h =
        let f = first_byte 0x1B (method_parts m) b remainder h in let x = method_read m d f.0 remainder (omega arith) is f.2 in rw f.1 ((refl, refl), refl, x)

    pub typed_read : (t : Typed) (d : ℕ) (b remainder : List ℕ) → typed_depth t ≤ d → IsTyped t → Head (typed_parts t) b remainder → ReadsSlot (core_shown d) b (typed_text t) remainder
    typed_read (typed ms c) d b remainder le is h =
        led_modifiers (core_shown d) ms (core_parts c) (core_text c) b remainder (λ m g. plain_content d m (core_text c) remainder (core_read c d m remainder le is g)) h

    types_read : (ts : Types) (d : ℕ) (before : List Piece) (b remainder : List ℕ) → types_depth ts ≤ d → AreTypes ts → Head (types_parts ts) b remainder → listed_shown (core_shown d) before (count_types ts) b ≡ (types_text before ts, remainder)
    types_read no_types d before b remainder le is h = ap (λ (t : List ℕ). ([], t)) h
    types_read (type_then t ts) d before b remainder le is h =
        let s = split_head (typed_parts t) (types_parts ts) b remainder h in
        let x = typed_read t d b s.0 (omega arith) is.0 s.1 in
        let more = types_read ts d comma s.0 remainder (omega arith) is.1 s.2 in
        rw (x.0, x.1, more) refl

    pub content_read : (p : Content) (d : ℕ) (remainder : List ℕ) → content_depth p ≤ d → IsContent p → ReadsContent (core_shown d) (content_parts p) (content_text p) remainder
    content_read typed_ref zero remainder le is b h = absurd (omega arith)
    content_read typed_ref (suc d) remainder le is b h = let f = first_byte 0x16 [] b remainder h in rw (f.1, f.2) ((refl, refl), refl)
    content_read (plain c) d remainder le is b h = plain_content d b (core_text c) remainder (core_read c d b remainder le is h)
    content_read (by_ref ms c) d remainder le is b h =
        let f = first_byte 0x10 (modifiers_parts ms ++ core_parts c) b remainder h in
        let s = split_head (modifiers_parts ms) (core_parts c) f.0 remainder f.2 in
        let x = core_read c d s.0 remainder le is s.2 in
        let marks = marks_are (map Mod ms) f.0 s.0 x.0.0 (rw (← as_prefixes ms) s.1) in
        let after = following_modifiers ms in
        rw f.1 ((refl, refl), rw (marks, x.2, after) refl)

    pub slot_read : (s : Slot) (d : ℕ) (b remainder : List ℕ) → slot_depth s ≤ d → IsSlot s → Head (slot_parts s) b remainder → ReadsSlot (core_shown d) b (slot_text s) remainder
    slot_read (slot ms p) d b remainder le is h = led_modifiers (core_shown d) ms (content_parts p) (content_text p) b remainder (content_read p d remainder le is) h

    slots_read : (ss : Slots) (sentinel : Option ℕ) (d : ℕ) (before : List Piece) (b remainder : List ℕ) → slots_depth ss ≤ d → AreSlots ss → Head (slots_parts ss sentinel) b remainder → listed_shown (core_shown d) before (count_slots ss) b ≡ (slots_text before ss sentinel, remainder)
    slots_read no_slots sentinel d before b remainder le is h = ap (λ (t : List ℕ). ([], t)) h
    slots_read (slot_then s ss) None d before b remainder le is h =
        let m = split_head (slot_parts s) (slots_parts ss None) b remainder h in
        let x = slot_read s d b m.0 (omega arith) is.0 m.1 in
        let more = slots_read ss None d comma m.0 remainder (omega arith) is.1 m.2 in
        rw (x.0, x.1, more) refl
    slots_read (slot_then s ss) (Some zero) d before b remainder le is h =
        let f = first_byte 0x41 (slot_parts s ++ slots_parts ss None) b remainder h in
        let m = split_head (slot_parts s) (slots_parts ss None) f.0 remainder f.2 in
        let x = slot_read s d f.0 m.0 (omega arith) is.0 m.1 in
        let more = slots_read ss None d comma m.0 remainder (omega arith) is.1 m.2 in
        rw (f.1, x.1, more) refl
    slots_read (slot_then s ss) (Some (suc n)) d before b remainder le is h =
        let m = split_head (slot_parts s) (slots_parts ss (Some n)) b remainder h in
        let x = slot_read s d b m.0 (omega arith) is.0 m.1 in
        let more = slots_read ss (Some n) d comma m.0 remainder (omega arith) is.1 m.2 in
        rw (x.0, x.1, more) refl

    pub ret_read : (r : Ret) (d : ℕ) (b remainder : List ℕ) → ret_depth r ≤ d → IsRet r → Head (ret_parts r) b remainder → slot_shown (core_shown d) b ≡ (ret_text r, remainder)
    ret_read (some_ret s) d b remainder le is h = (slot_read s d b remainder le is h).1
    ret_read (void_ret ms) d b remainder le is h = (led_modifiers (core_shown d) ms (byte 0x01 ∷ []) (word (codes "void") ∷ []) b remainder (void_read d remainder le) h).1

    pub method_read : (m : Method) (d : ℕ) (b remainder : List ℕ) → method_depth m ≤ d → IsMethod m → Head (method_parts m) b remainder → method_shown (core_shown d) b ≡ (method_text m, remainder)
    method_read (method kind this explicit generic ret params sentinel) d b remainder le is h =
        let code = method_head kind this explicit generic (number (count_slots params) ∷ (ret_parts ret ++ slots_parts params sentinel)) b remainder (kind_few kind is.0) h in
        let count = first_number (count_slots params) (ret_parts ret ++ slots_parts params sentinel) code.after remainder code.more in
        let s = split_head (ret_parts ret) (slots_parts params sentinel) count.0 remainder count.2 in
        let of = ret_read ret d count.0 s.0 (omega arith) is.2 s.1 in
        let all = slots_read params sentinel d [] s.0 remainder (omega arith) is.3 s.2 in
        rw (code.bytes, code.kind, code.this, code.explicit, code.generic, count.1, of, all) refl
