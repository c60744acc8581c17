-- The parts of the items of a signature are the parts of the signature.
use Rattle.sig_items.proofs.Prelude.{◌≡◌, ◌∙◌, ℕ, ℤ, zero, suc, ◌+◌, inl, inr, Option, Some, None, List, [], ◌∷◌, ◌++◌, length, append_assoc, refl, sym, ap, subst, arith, Modifier, Prefix, Core, simple, void_pointer, pointer, vector, array, class, value, var, mvar, instance, function, Typed, typed, Types, no_types, type_then, Content, typed_ref, plain, by_ref, Slot, slot, Slots, no_slots, slot_then, Ret, some_ret, void_ret, Method, method, ArrayShape, LocalVariable, local, Body, field, method_body, property, locals, instance_body, type_spec, list_parts, modifiers_parts, prefixes_parts, numbers_parts, bounds_parts, shape_parts, generic_parts, method_code, named_code, flag, count_types, count_slots, core_parts, typed_parts, types_parts, content_parts, slot_parts, slots_parts, ret_parts, method_parts, local_parts, body_parts, Item, modifiers_items, prefix_item, shape_items, core_items, typed_items, types_items, content_items, slot_items, slots_items, ret_items, method_items, local_items, items_of}
use Rattle.std.specs.Prelude.{flat_map, map}
use Rattle.std.specs.List.{AllByRecursion}
use Rattle.std.proofs.lemmas.List.Concat.{flat_map-append}
use Rattle.sig_grammar.specs.declared.body.Prefix.TheVariants.{Mod, Pinned}
use Rattle.sig_grammar.specs.ElementTypes.{VOID, PTR, BYREF, SZARRAY, ARRAY, GENERICINST, FNPTR, SENTINEL}
use Rattle.sig_grammar.specs.Conventions.{convention_of}
use Rattle.sig_grammar.specs.Parts.{Part, byte, number, index, short_part, HasEncoding}
use Rattle.sig_grammar.specs.Limits.{IsMethodKind, IsCore, IsTyped, AreTypes, IsContent, IsSlot, AreSlots, IsRet, IsMethod, IsSlotWithin, IsLocalWithin, IsTypedWithin, IsBodyWithin}
use Rattle.sig_grammar.specs.Encodes.{IsEncodable, short}
use Rattle.sig_items.specs.declared.item.Item.TheVariants as item
use Rattle.sig_items.specs.ItemParts.{convention_code, item_parts, short_parts, encoded_item, HasItemEncoding}

-- the parts of items, one after another
abbrev parts_in : List Item → List Part
parts_in items = flat_map item_parts items

joined : (xs ys : List Item) (ps qs : List Part) → parts_in xs ≡ ps → parts_in ys ≡ qs → parts_in (xs ++ ys) ≡ ps ++ qs
joined xs ys ps qs first second = flat_map-append item_parts xs ys ∙ rw (first, second) refl

-- ---- lists of one item each

modifiers_are : (ms : List Modifier) → parts_in (modifiers_items ms) ≡ modifiers_parts ms
modifiers_are [] = refl
modifiers_are (m ∷ ms) = ap (λ (ps : List Part). item_parts (item.Modifier m) ++ ps) (modifiers_are ms)

prefixes_are : (xs : List Prefix) → parts_in (map prefix_item xs) ≡ prefixes_parts xs
prefixes_are [] = refl
prefixes_are (Mod m ∷ xs) = ap (λ (ps : List Part). item_parts (item.Modifier m) ++ ps) (prefixes_are xs)
prefixes_are (Pinned ∷ xs) = ap (λ (ps : List Part). item_parts item.Pinned ++ ps) (prefixes_are xs)

sizes_are : (ns : List ℕ) → parts_in (map item.Size ns) ≡ numbers_parts ns
sizes_are [] = refl
sizes_are (n ∷ ns) = ap (λ (ps : List Part). number n ∷ ps) (sizes_are ns)

bounds_are : (zs : List ℤ) → parts_in (map item.LowBound zs) ≡ bounds_parts zs
bounds_are [] = refl
bounds_are (z ∷ zs) = ap (λ (ps : List Part). item_parts (item.LowBound z) ++ ps) (bounds_are zs)

shape_is : (shape : ArrayShape) → parts_in (shape_items shape) ≡ shape_parts shape
shape_is shape =
    let bounds = length shape.low in
    ap (λ (ps : List Part). number shape.rank ∷ number (length shape.sizes) ∷ ps)
    (joined (map item.Size shape.sizes) (item.LowBounds bounds ∷ map item.LowBound shape.low) (numbers_parts shape.sizes) (number bounds ∷ bounds_parts shape.low)
    (sizes_are shape.sizes) (ap (λ (ps : List Part). number bounds ∷ ps) (bounds_are shape.low)))

-- ---- the first byte of a method

same_kind : (kind : ℕ) → IsMethodKind kind → convention_code (convention_of kind) ≡ kind
unfolding convention_of
same_kind zero is = refl
same_kind (suc zero) is = refl
same_kind (suc (suc zero)) is = refl
same_kind (suc (suc (suc zero))) is = refl
same_kind (suc (suc (suc (suc zero)))) is = refl
same_kind (suc (suc (suc (suc (suc zero))))) is = refl
same_kind (suc (suc (suc (suc (suc (suc kind)))))) (inl few) = absurd (omega arith)
same_kind (suc (suc (suc (suc (suc (suc kind)))))) (inr nine) = rw nine refl

head_is : (kind : ℕ) (this explicit : _) (generic : Option ℕ) (count : ℕ) (xs : List Item) (ps : List Part) → IsMethodKind kind → parts_in xs ≡ ps
    → parts_in (item.Method (record { convention = convention_of kind; this = this; explicit = explicit; generic = generic; params = count }) ∷ xs)
    ≡ byte (method_code kind this explicit generic) ∷ (generic_parts generic ++ number count ∷ ps)
head_is kind this explicit generic count xs ps is e =
    rw (same_kind kind is, e) (ap (λ (qs : List Part). byte (method_code kind this explicit generic) ∷ qs) (append_assoc (generic_parts generic) (number count ∷ []) ps))

-- ---- types

mutual
  core_is : (c : Core) → IsCore c → parts_in (core_items c) ≡ core_parts c
  core_is (simple element) is = refl
  core_is (void_pointer ms) is = ap (λ (ps : List Part). byte PTR ∷ ps) (joined (modifiers_items ms) (item.Void ∷ []) (modifiers_parts ms) (byte VOID ∷ []) (modifiers_are ms) refl)
  core_is (pointer ms to) is = ap (λ (ps : List Part). byte PTR ∷ ps) (joined (modifiers_items ms) (core_items to) (modifiers_parts ms) (core_parts to) (modifiers_are ms) (core_is to is))
  core_is (vector of) is = ap (λ (ps : List Part). byte SZARRAY ∷ ps) (typed_is of is)
  core_is (array of shape) is =
      ap (λ (ps : List Part). byte ARRAY ∷ ps) (joined (typed_items of) (shape_items shape) (typed_parts of) (shape_parts shape) (typed_is of is.0) (shape_is shape))
  core_is (class of) is = refl
  core_is (value of) is = refl
  core_is (var n) is = refl
  core_is (mvar n) is = refl
  core_is (instance is_value of args) is =
      ap (λ (ps : List Part). byte GENERICINST ∷ byte (named_code is_value) ∷ index of ∷ number (count_types args) ∷ ps) (types_are args is)
  core_is (function m) is = ap (λ (ps : List Part). byte FNPTR ∷ ps) (method_is m is)

  typed_is : (t : Typed) → IsTyped t → parts_in (typed_items t) ≡ typed_parts t
  typed_is (typed ms core) is = joined (modifiers_items ms) (core_items core) (modifiers_parts ms) (core_parts core) (modifiers_are ms) (core_is core is)

  types_are : (ts : Types) → AreTypes ts → parts_in (types_items ts) ≡ types_parts ts
  types_are no_types is = refl
  types_are (type_then t ts) is = joined (typed_items t) (types_items ts) (typed_parts t) (types_parts ts) (typed_is t is.0) (types_are ts is.1)

  content_is : (p : Content) → IsContent p → parts_in (content_items p) ≡ content_parts p
  content_is typed_ref is = refl
  content_is (plain core) is = core_is core is
  content_is (by_ref ms core) is = ap (λ (ps : List Part). byte BYREF ∷ ps) (joined (modifiers_items ms) (core_items core) (modifiers_parts ms) (core_parts core) (modifiers_are ms) (core_is core is))

  slot_is : (s : Slot) → IsSlot s → parts_in (slot_items s) ≡ slot_parts s
  slot_is (slot ms content) is = joined (modifiers_items ms) (content_items content) (modifiers_parts ms) (content_parts content) (modifiers_are ms) (content_is content is)

  slots_are : (ss : Slots) (sentinel : Option ℕ) → AreSlots ss → parts_in (slots_items ss sentinel) ≡ slots_parts ss sentinel
  slots_are no_slots sentinel is = refl
  slots_are (slot_then s ss) None is = joined (slot_items s) (slots_items ss None) (slot_parts s) (slots_parts ss None) (slot_is s is.0) (slots_are ss None is.1)
  slots_are (slot_then s ss) (Some zero) is =
      ap (λ (ps : List Part). byte SENTINEL ∷ ps) (joined (slot_items s) (slots_items ss None) (slot_parts s) (slots_parts ss None) (slot_is s is.0) (slots_are ss None is.1))
  slots_are (slot_then s ss) (Some (suc before)) is =
      joined (slot_items s) (slots_items ss (Some before)) (slot_parts s) (slots_parts ss (Some before)) (slot_is s is.0) (slots_are ss (Some before) is.1)

  ret_is : (r : Ret) → IsRet r → parts_in (ret_items r) ≡ ret_parts r
  ret_is (some_ret s) is = slot_is s is
  ret_is (void_ret ms) is = joined (modifiers_items ms) (item.Void ∷ []) (modifiers_parts ms) (byte VOID ∷ []) (modifiers_are ms) refl

  method_is : (m : Method) → IsMethod m → parts_in (method_items m) ≡ method_parts m
  method_is (method kind this explicit generic ret params sentinel) is =
      head_is kind this explicit generic (count_slots params) (ret_items ret ++ slots_items params sentinel) (ret_parts ret ++ slots_parts params sentinel) is.0
      (joined (ret_items ret) (slots_items params sentinel) (ret_parts ret) (slots_parts params sentinel) (ret_is ret is.2) (slots_are params sentinel is.3))

-- ---- whole signatures

each_is : {A : Type 0} (Good : A → Type 0) (items : A → List Item) (parts : A → List Part) → ((x : A) → Good x → parts_in (items x) ≡ parts x)
    → (xs : List A) → AllByRecursion Good xs → parts_in (flat_map items xs) ≡ list_parts parts xs
each_is Good items parts one [] all = refl
each_is Good items parts one (x ∷ xs) all =
    joined (items x) (flat_map items xs) (parts x) (list_parts parts xs) (one x all.0) (each_is Good items parts one xs all.1)

local_is : (x : LocalVariable) → IsLocalWithin 128 x → parts_in (local_items x) ≡ local_parts x
local_is (local xs content) is = joined (map prefix_item xs) (content_items content) (prefixes_parts xs) (content_parts content) (prefixes_are xs) (content_is content is.1)

body_is : (b : Body) → IsBodyWithin 128 b → parts_in (items_of b) ≡ body_parts b
body_is (field s) is = ap (λ (ps : List Part). byte 0x06 ∷ ps) (slot_is s is.1)
body_is (method_body m) is = method_is m is.1
body_is (property this of params) is =
    ap (λ (ps : List Part). byte (0x08 + flag this 0x20) ∷ number (length params) ∷ ps)
    (joined (slot_items of) (flat_map slot_items params) (slot_parts of) (list_parts slot_parts params) (slot_is of is.0.1)
    (each_is (IsSlotWithin 128) slot_items slot_parts (λ s h. slot_is s h.1) params is.1))
body_is (locals variables) is =
    ap (λ (ps : List Part). byte 0x07 ∷ number (length variables) ∷ ps) (each_is (IsLocalWithin 128) local_items local_parts local_is variables is)
body_is (instance_body args) is =
    ap (λ (ps : List Part). byte 0x0A ∷ number (length args) ∷ ps) (each_is (IsTypedWithin 128) typed_items typed_parts (λ t h. typed_is t h.1) args is)
body_is (type_spec ret) is = ret_is ret is.1

-- ---- bytes

parts_bytes : (items : List Item) → flat_map encoded_item items ≡ short_parts (parts_in items)
parts_bytes [] = refl
parts_bytes (i ∷ items) = ap (λ (b : List ℕ). encoded_item i ++ b) (parts_bytes items) ∙ sym (flat_map-append short_part (item_parts i) (parts_in items))

all_first : (ps qs : List Part) → AllByRecursion HasEncoding (ps ++ qs) → AllByRecursion HasEncoding ps × AllByRecursion HasEncoding qs
all_first [] qs all = (tt, all)
all_first (p ∷ ps) qs all = let more = all_first ps qs all.1 in ((all.0, more.0), more.1)

each_item : (items : List Item) → AllByRecursion HasEncoding (parts_in items) → AllByRecursion HasItemEncoding items
each_item [] all = tt
each_item (i ∷ items) all = let two = all_first (item_parts i) (parts_in items) all in (two.0, each_item items two.1)

pub items_encoded : (s : Body) → IsEncodable s → flat_map encoded_item (items_of s) ≡ short s
items_encoded s is = parts_bytes (items_of s) ∙ ap short_parts (body_is s is.body)

pub items_encodable : (s : Body) → IsEncodable s → AllByRecursion HasItemEncoding (items_of s)
items_encodable s is = each_item (items_of s) (subst (AllByRecursion HasEncoding) (sym (body_is s is.body)) is.parts)
