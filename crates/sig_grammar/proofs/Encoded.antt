-- If bytes encode a value, it has a canonical encoding, which is no longer than those bytes.
use Rattle.sig_grammar.proofs.Prelude.{◌≡◌, ℕ, zero, suc, ◌+◌, ◌^◌, ◌<◌, ◌≤◌, Bool, true, false, cond, Option, Some, None, is_some, List, [], ◌∷◌, ◌++◌, length, refl, sym, ap, subst, arith, ◌⊎◌, inl, inr, length-append, ⊤, ℤ, flat_map, slice_get, AllByRecursion, position_or_len, IsPacked, IsPackedSigned, FitsBits, short_unsigned, short_signed, Token, TypeDefOrRef, tables_of, IsCoded, SigKind, Element, Boolean, Modifier, Prefix, Mod, Pinned, element_code, Core, simple, void_pointer, pointer, vector, array, instance, function, Typed, typed, Types, no_types, type_then, Content, typed_ref, plain, by_ref, Slot, slot, Slots, no_slots, slot_then, Ret, some_ret, void_ret, Method, method, ArrayShape, LocalVariable, local, Body, field, method_body, property, locals, instance_body, type_spec, Part, byte, number, signed, index, EncodesPart, EncodesParts, short_part, is_table, index_number, HasEncoding, part_tokens, list_parts, modifier_parts, modifiers_parts, numbers_parts, bounds_parts, shape_parts, named_code, flag, method_code, generic_parts, core_parts, typed_parts, types_parts, content_parts, slot_parts, slots_parts, ret_parts, method_parts, prefix_parts, prefixes_parts, local_parts, body_parts, IsMethodKind, IsCore, IsTyped, AreTypes, IsContent, IsSlot, AreSlots, IsRet, IsMethod, IsTypedWithin, IsSlotWithin, IsLocalWithin, IsBodyWithin, Encodes, IsEncodable, short, tokens}
use Rattle.table_schema.specs.declared.table.TableId.{TableId}
use Rattle.table_schema.specs.declared.table.TableId.TheVariants.{TypeDef, TypeRef, TypeSpec}
use Rattle.sig_grammar.proofs.Methods.{kind_lt}

-- ---- each byte part of the grammar is a byte

abbrev IsSmall : Part → Type 0
IsSmall (byte c) = c < 256
IsSmall _ = ⊤

abbrev AreSmall : List Part → Type 0
AreSmall parts = AllByRecursion IsSmall parts

small-append : (ps qs : List Part) → AreSmall ps → AreSmall qs → AreSmall (ps ++ qs)
small-append [] qs h k = k
small-append (p ∷ ps) qs h k = (h.0, small-append ps qs h.1 k)

list_small : {A : Type 0} (P : A → Type 0) (parts : A → List Part) → ((x : A) → P x → AreSmall (parts x)) → (xs : List A) → AllByRecursion P xs → AreSmall (list_parts parts xs)
list_small P parts each [] h = tt
list_small P parts each (x ∷ xs) h = small-append (parts x) (list_parts parts xs) (each x h.0) (list_small P parts each xs h.1)

every_small : {A : Type 0} (parts : A → List Part) → ((x : A) → AreSmall (parts x)) → (xs : List A) → AreSmall (list_parts parts xs)
every_small parts each [] = tt
every_small parts each (x ∷ xs) = small-append (parts x) (list_parts parts xs) (each x) (every_small parts each xs)

modifier_small : (m : Modifier) → AreSmall (modifier_parts m)
modifier_small m = (by_test m.required, (tt, tt))
  where
    by_test : (p : Bool) → cond p 0x1F 0x20 < 256
    by_test true = omega arith
    by_test false = omega arith

modifiers_small : (ms : List Modifier) → AreSmall (modifiers_parts ms)
modifiers_small ms = every_small modifier_parts modifier_small ms

shape_small : (s : ArrayShape) → AreSmall (shape_parts s)
shape_small s =
    (tt, (tt, small-append (numbers_parts s.sizes) (number (length s.low) ∷ bounds_parts s.low) (every_small (λ n. number n ∷ []) (λ n. (tt, tt)) s.sizes) (tt, every_small (λ z. signed z ∷ []) (λ z. (tt, tt)) s.low)))

element_small : (e : Element) → element_code e < 256
element_small Boolean = omega arith
element_small _ = omega arith

named_small : (is_value : Bool) → named_code is_value < 256
named_small true = omega arith
named_small false = omega arith

flag_small : (set : Bool) (bit : ℕ) → flag set bit ≤ bit
flag_small true bit = omega arith
flag_small false bit = omega arith

code_small : (kind : ℕ) (this explicit : Bool) (generic : Option ℕ) → IsMethodKind kind → method_code kind this explicit generic < 256
code_small kind this explicit generic h =
    let few = kind_lt kind h in
    omega (arith, flag_small (is_some generic) 0x10, flag_small this 0x20, flag_small explicit 0x40)

generic_small : (generic : Option ℕ) → AreSmall (generic_parts generic)
generic_small None = tt
generic_small (Some n) = (tt, tt)

mutual
  core_small : (c : Core) → IsCore c → AreSmall (core_parts c)
  core_small (simple e) h = (element_small e, tt)
  core_small (void_pointer ms) h = (omega arith, small-append (modifiers_parts ms) (byte 0x01 ∷ []) (modifiers_small ms) (omega arith, tt))
  core_small (pointer ms to) h = (omega arith, small-append (modifiers_parts ms) (core_parts to) (modifiers_small ms) (core_small to h))
  core_small (vector of) h = (omega arith, typed_small of h)
  core_small (array of shape) h = (omega arith, small-append (typed_parts of) (shape_parts shape) (typed_small of h.0) (shape_small shape))
  core_small (instance is_value of args) h = (omega arith, (named_small is_value, (tt, (tt, types_small args h))))
  core_small (function m) h = (omega arith, method_small m h)
  core_small _ h = (omega arith, (tt, tt))

  typed_small : (t : Typed) → IsTyped t → AreSmall (typed_parts t)
  typed_small (typed ms core) h = small-append (modifiers_parts ms) (core_parts core) (modifiers_small ms) (core_small core h)

  types_small : (ts : Types) → AreTypes ts → AreSmall (types_parts ts)
  types_small no_types h = tt
  types_small (type_then t ts) h = small-append (typed_parts t) (types_parts ts) (typed_small t h.0) (types_small ts h.1)

  content_small : (c : Content) → IsContent c → AreSmall (content_parts c)
  content_small typed_ref h = (omega arith, tt)
  content_small (plain core) h = core_small core h
  content_small (by_ref ms core) h = (omega arith, small-append (modifiers_parts ms) (core_parts core) (modifiers_small ms) (core_small core h))

  slot_small : (s : Slot) → IsSlot s → AreSmall (slot_parts s)
  slot_small (slot ms content) h = small-append (modifiers_parts ms) (content_parts content) (modifiers_small ms) (content_small content h)

  slots_small : (ss : Slots) (sentinel : Option ℕ) → AreSlots ss → AreSmall (slots_parts ss sentinel)
  slots_small no_slots sentinel h = tt
  slots_small (slot_then s ss) None h = small-append (slot_parts s) (slots_parts ss None) (slot_small s h.0) (slots_small ss None h.1)
  slots_small (slot_then s ss) (Some zero) h =
      (omega arith, small-append (slot_parts s) (slots_parts ss None) (slot_small s h.0) (slots_small ss None h.1))
  slots_small (slot_then s ss) (Some (suc before)) h =
      small-append (slot_parts s) (slots_parts ss (Some before)) (slot_small s h.0) (slots_small ss (Some before) h.1)

  ret_small : (r : Ret) → IsRet r → AreSmall (ret_parts r)
  ret_small (some_ret s) h = slot_small s h
  ret_small (void_ret ms) h = small-append (modifiers_parts ms) (byte 0x01 ∷ []) (modifiers_small ms) (omega arith, tt)

  method_small : (m : Method) → IsMethod m → AreSmall (method_parts m)
  method_small (method kind this explicit generic ret params sentinel) h = (
    code_small kind this explicit generic h.0,
    small-append (generic_parts generic) _ (generic_small generic) (tt, small-append (ret_parts ret) (slots_parts params sentinel) (ret_small ret h.2) (slots_small params sentinel h.3)),
  )

prefix_small : (p : Prefix) → AreSmall (prefix_parts p)
prefix_small (Mod m) = modifier_small m
prefix_small Pinned = (omega arith, tt)

local_small : (v : LocalVariable) → IsLocalWithin 128 v → AreSmall (local_parts v)
local_small (local prefixes content) h =
    small-append (prefixes_parts prefixes) (content_parts content) (every_small prefix_parts prefix_small prefixes) (content_small content h.1)

body_small : (s : Body) → IsBodyWithin 128 s → AreSmall (body_parts s)
body_small (field s) h = (omega arith, slot_small s h.1)
body_small (method_body m) h = method_small m h.1
body_small (property this of params) h =
    (omega (arith, flag_small this 0x20), (tt, small-append (slot_parts of) (list_parts slot_parts params) (slot_small of h.0.1) (list_small (IsSlotWithin 128) slot_parts (λ s k. slot_small s k.1) params h.1)))
body_small (locals variables) h = (omega arith, (tt, list_small (IsLocalWithin 128) local_parts local_small variables h))
body_small (instance_body args) h = (omega arith, (tt, list_small (IsTypedWithin 128) typed_parts (λ t k. typed_small t k.1) args h))
body_small (type_spec ret) h = ret_small ret h.1

-- ---- a type index

-- the tag of a table is its index among the tables that an index can name
listed_tag : (tag : ℕ) (table : TableId) → slice_get (tables_of TypeDefOrRef) tag ≡ Some (Some table) → position_or_len (is_table table) (tables_of TypeDefOrRef) ≡ tag
listed_tag zero table e = let same : TypeDef ≡ table = cc in rw (← same) refl
listed_tag (suc zero) table e = let same : TypeRef ≡ table = cc in rw (← same) refl
listed_tag (suc (suc zero)) table e = let same : TypeSpec ≡ table = cc in rw (← same) refl
listed_tag (suc (suc (suc tag))) table e = absurd cc

tag_is : (t : Token) (n : ℕ) → IsCoded TypeDefOrRef n t.table t.row → index_number t ≡ n
tag_is t n is = let same = listed_tag is.tag t.table is.listed in let equal = is.equal in omega arith

-- ---- each part, and all of them

module _ (unsigned_least : (n : ℕ) (s : List ℕ) → IsPacked n s → length (short_unsigned n) ≤ length s)
    (signed_least : (z : ℤ) (s : List ℕ) → IsPackedSigned z s → length (short_signed z) ≤ length s) where
  part_least : (p : Part) (s : List ℕ) → EncodesPart p s → length (short_part p) ≤ length s
  part_least (byte c) s is = rw is (omega arith)
  part_least (number n) s is = unsigned_least n s is
  part_least (signed z) s is = signed_least z s is
  part_least (index t) s is = let same = tag_is t is.number is.coded in rw same (unsigned_least is.number s is.packed)

  parts_least : (ps : List Part) (b : List ℕ) → EncodesParts ps b → length (flat_map short_part ps) ≤ length b
  parts_least [] b is = omega arith
  parts_least (p ∷ ps) b is =
      omega (arith, part_least p is.0 is.3, parts_least ps is.1 is.4, length-append (short_part p) (flat_map short_part ps), ap length is.2, length-append is.0 is.1)

  pub encoded_shorter : (kind : SigKind) (s : Body) (b : List ℕ) → Encodes kind s b → length (short s) ≤ length b
  encoded_shorter kind s b h = parts_least (body_parts s) b h.parts

  module _ (unsigned_below : (n : ℕ) (s : List ℕ) → IsPacked n s → n < 2 ^ 29) (signed_fits : (z : ℤ) (s : List ℕ) → IsPackedSigned z s → FitsBits 29 z) where
    part_has : (p : Part) (s : List ℕ) → IsSmall p → EncodesPart p s → HasEncoding p
    part_has (byte c) s small is = small
    part_has (number n) s small is = unsigned_below n s is
    part_has (signed z) s small is = signed_fits z s is
    part_has (index t) s small is =
        let same = tag_is t is.number is.coded in
        let below = unsigned_below is.number s is.packed in
        let equal = is.coded.equal in
        (subst (λ (n : ℕ). IsCoded TypeDefOrRef n t.table t.row) (sym same) is.coded, omega arith)

    parts_have : (ps : List Part) (b : List ℕ) → AreSmall ps → EncodesParts ps b → AllByRecursion HasEncoding ps
    parts_have [] b small is = tt
    parts_have (p ∷ ps) b small is = (part_has p is.0 small.0 is.3, parts_have ps is.1 small.1 is.4)

    pub encoded_encodable : (kind : SigKind) (s : Body) (b : List ℕ) → Encodes kind s b → IsEncodable s
    encoded_encodable kind s b h = record {
      body = h.body;
      parts = parts_have (body_parts s) b (body_small s h.body) h.parts;
      limit = (let least = parts_least (body_parts s) b h.parts in let few = h.limit in omega arith);
    }

-- ---- the type indexes of an encodable value

abbrev pub HasTypeTable : Token → Type 0
HasTypeTable t = (t.table ≡ TypeDef) ⊎ ((t.table ≡ TypeRef) ⊎ (t.table ≡ TypeSpec))

coded_table : (t : Token) (n : ℕ) → IsCoded TypeDefOrRef n t.table t.row → HasTypeTable t
coded_table t n is = by_tag is.tag is.listed
  where
    by_tag : (tag : ℕ) → slice_get (tables_of TypeDefOrRef) tag ≡ Some (Some t.table) → HasTypeTable t
    by_tag zero listed = let same : t.table ≡ TypeDef = cc in inl same
    by_tag (suc zero) listed = let same : t.table ≡ TypeRef = cc in inr (inl same)
    by_tag (suc (suc zero)) listed = let same : t.table ≡ TypeSpec = cc in inr (inr same)
    by_tag (suc (suc (suc tag))) listed = absurd cc

module _ (P : Token → Type 0) (each : (t : Token) → HasEncoding (index t) → P t) where
  tokens_have : (ps : List Part) → AllByRecursion HasEncoding ps → AllByRecursion P (flat_map part_tokens ps)
  tokens_have [] h = tt
  tokens_have (byte c ∷ ps) h = tokens_have ps h.1
  tokens_have (number n ∷ ps) h = tokens_have ps h.1
  tokens_have (signed z ∷ ps) h = tokens_have ps h.1
  tokens_have (index t ∷ ps) h = (each t h.0, tokens_have ps h.1)

pub tokens_have_rows : (s : Body) → IsEncodable s → AllByRecursion (λ t. t.row < 2 ^ 27) (tokens s)
tokens_have_rows s h = tokens_have (λ t. t.row < 2 ^ 27) (λ t k. k.1) (body_parts s) h.parts

pub tokens_have_tables : (s : Body) → IsEncodable s → AllByRecursion HasTypeTable (tokens s)
tokens_have_tables s h = tokens_have HasTypeTable (λ t k. coded_table t (index_number t) k.0) (body_parts s) h.parts
