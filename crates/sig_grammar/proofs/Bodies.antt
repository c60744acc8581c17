-- Whole signatures are read as they are encoded, in each kind of column.
use Rattle.sig_grammar.proofs.Prelude.{◌≡◌, ◌≢◌, ◌⊎◌, inl, inr, ℕ, ◌%◌, ◌≤◌, Bool, true, false, is_some, List, refl, arith, ◌^◌, ◌<◌, Some, [], ◌∷◌, length, sym, ap, ◌∙◌, AllByRecursion, Prefix, SigKind, Core, Content, Method, method, Ret, LocalVariable, local, Body, field, method_body, property, locals, instance_body, type_spec, core_parts, slot_parts, method_parts, method_code, local_parts, body_parts, IsMethod, IsMethodKind, IsLocalWithin, IsBodyWithin, IsCoreWithin, IsTypedWithin, IsContentWithin, IsSlotWithin, IsRetWithin, Holds, Encodes, IsEncodable, short, Reader, fail, prefixes_at, slot_at, core_at, local_from, local_at, property_from, method_or, field_or, property_or, body_at, ℤ, flat_map, IsPacked, IsPackedSigned, FitsBits, short_unsigned, short_signed, TypeDefOrRef, tables_of, Part, byte, number, signed, index, EncodesPart, EncodesParts, short_part, index_number, HasEncoding}
use Rattle.table_schema.specs.declared.column.SigKind.TheVariants as column
use Rattle.std.proofs.lemmas.Option.{same_Some, slice_get_within}
use Rattle.sig_grammar.proofs.Readers.{Reads, change_reads, NumbersAreRead, Any, BothGood, counted_reads, headed_reads, IsBytes, Head-whole, Head-from_whole, Takes}
use Rattle.sig_grammar.proofs.Leading.{heads, no, no_prefix, prefix_leads, led_reads}
use Rattle.sig_grammar.proofs.Codes.{other_byte, start_no_prefix, content_heads, form_reads, typed_reads, content_reads, slot_reads, ret_reads}
use Rattle.sig_grammar.proofs.Methods.{IsMethodOf, method_reads, code_bits, kind_lt}
use Rattle.sig_grammar.proofs.Cores.{core_reads}

abbrev Nothing : Body → Type 0
Nothing v = ⊥

fail_reads : Reads fail body_parts Nothing
fail_reads = record { found = λ b h. tt; only = λ b remainder v good f. absurd good }

-- a value of one form, or another value, which starts with another byte
abbrev IsForm : {A : Type 0} → ℕ → (A → Body) → (A → Type 0) → (Body → Type 0) → Body → Type 0
IsForm {A} n f Inner Fine v = ((u : A) × Inner u × (f u ≡ v)) ⊎ (Fine v × (heads (no n) (body_parts v) ≡ true))

-- ---- no method starts with the byte of another form

method_no : (n : ℕ) (m : Method) → (n ≡ 6) ⊎ (n ≡ 7) → IsMethod m → heads (no n) (method_parts m) ≡ true
method_no n (method kind this explicit generic ret params sentinel) which good =
    let code = method_code kind this explicit generic in
    let bits = code_bits kind this explicit (is_some generic) (kind_lt kind good.0) in
    other_byte n code (differs kind code n bits.1 good.0 which)
  where
    differs : (kind code n : ℕ) → code % 16 ≡ kind → IsMethodKind kind → (n ≡ 6) ⊎ (n ≡ 7) → code ≢ n
    differs kind code n e (inl k) (inl w) = omega arith
    differs kind code n e (inl k) (inr w) = omega arith
    differs kind code n e (inr k) (inl w) = omega arith
    differs kind code n e (inr k) (inr w) = omega arith

-- ---- the forms

abbrev pub IsHeld : ℕ → SigKind → Body → Type 0
IsHeld d kind s = Holds kind s × IsBodyWithin d s

module _ (known : NumbersAreRead) (d : ℕ) (nested : Reader Core) (cores : Reads nested core_parts (IsCoreWithin d)) (some_depth : 1 ≤ d) where
  abbrev slots : Reads (slot_at nested) slot_parts (IsSlotWithin d)
  slots = slot_reads known d nested cores some_depth

  local_reads : Reads (local_at nested) local_parts (IsLocalWithin d)
  unfolding local_at prefixes_at
  local_reads =
      change_reads local_from (led_reads (prefix_leads known) (content_reads known d nested cores some_depth) (λ v good. content_heads no_prefix start_no_prefix refl refl v)) (λ u good. good.1) (λ u. refl) back
    where
      back : (v : LocalVariable) → IsLocalWithin d v → (u : List Prefix × Content) × BothGood (λ ps. Any ps) (IsContentWithin d) u × (local_from u ≡ v)
      back (local prefix content) good = ((prefix, content), (tt, good), refl)

  abbrev IsOwnMethod : Bool → Body → Type 0
  IsOwnMethod own (method_body m) = IsMethodOf known d nested cores some_depth own m
  IsOwnMethod own _ = ⊥

  method_or_reads : (own : Bool) → Reads (method_or own nested) body_parts (IsOwnMethod own)
  method_or_reads own = change_reads method_body (method_reads known d nested cores some_depth own) (λ u good. good) (λ u. refl) back
    where
      back : (v : Body) → IsOwnMethod own v → (u : Method) × IsMethodOf known d nested cores some_depth own u × (method_body u ≡ v)
      back (method_body m) good = (m, good, refl)
      back _ good = absurd good

  abbrev FieldOrMethod : Body → Type 0
  FieldOrMethod s = IsHeld d column.MemberRef s

  field_or_method : Reads (field_or nested (method_or true nested)) body_parts FieldOrMethod
  field_or_method = form_reads 0x06 field slots (method_or_reads true) (λ u. refl) (λ u good. (tt, good)) fine which
    where
      fine : (v : Body) → IsOwnMethod true v → FieldOrMethod v
      fine (method_body m) h = (tt, (h.0, h.1))
      fine _ h = absurd h

      which : (v : Body) → FieldOrMethod v → IsForm 0x06 field (IsSlotWithin d) (IsOwnMethod true) v
      which (field s) good = inl (s, good.1, refl)
      which (method_body m) good = inr ((good.1.0, good.1.1, tt), method_no 0x06 m (inl refl) good.1.1)
      which _ good = absurd good.0

  abbrev IsStatic : Body → Type 0
  IsStatic (property false s ss) = IsBodyWithin d (property false s ss)
  IsStatic _ = ⊥

  static_property : Reads (property_or 0x08 false nested fail) body_parts IsStatic
  static_property = form_reads 0x08 (property_from false) (headed_reads slots known) fail_reads (λ u. refl) (λ u good. good) (λ v h. absurd h) which
    where
      which : (v : Body) → IsStatic v → IsForm 0x08 (property_from false) (BothGood (IsSlotWithin d) (AllByRecursion (IsSlotWithin d))) Nothing v
      which (property false s ss) good = inl ((s, ss), good, refl)
      which _ good = absurd good

  -- ---- by the kind of column

  pub body_reads : (kind : SigKind) → Reads (body_at kind nested) body_parts (IsHeld d kind)
  unfolding body_at
  body_reads column.Field = form_reads 0x06 field slots fail_reads (λ u. refl) (λ u good. (tt, good)) (λ v h. absurd h) which
    where
      which : (v : Body) → IsHeld d column.Field v → IsForm 0x06 field (IsSlotWithin d) Nothing v
      which (field s) good = inl (s, good.1, refl)
      which _ good = absurd good.0
  body_reads column.MethodDef = change_reads method_body (method_reads known d nested cores some_depth false) (λ u good. (good.2, (good.0, good.1))) (λ u. refl) back
    where
      back : (v : Body) → IsHeld d column.MethodDef v → (u : Method) × IsMethodOf known d nested cores some_depth false u × (method_body u ≡ v)
      back (method_body m) good = (m, (good.1.0, good.1.1, good.0), refl)
      back _ good = absurd good.0
  body_reads column.MemberRef = field_or_method
  body_reads column.StandAlone = form_reads 0x07 locals (counted_reads local_reads known) field_or_method (λ u. refl) (λ u good. (tt, good)) fine which
    where
      fine : (v : Body) → FieldOrMethod v → IsHeld d column.StandAlone v
      fine (field s) h = h
      fine (method_body m) h = h
      fine _ h = absurd h.0

      which : (v : Body) → IsHeld d column.StandAlone v → IsForm 0x07 locals (AllByRecursion (IsLocalWithin d)) FieldOrMethod v
      which (locals ls) good = inl (ls, good.1, refl)
      which (field s) good = inr (good, refl)
      which (method_body m) good = inr (good, method_no 0x07 m (inr refl) good.1.1)
      which _ good = absurd good.0
  body_reads column.Property = form_reads 0x28 (property_from true) (headed_reads slots known) static_property (λ u. refl) (λ u good. (tt, good)) fine which
    where
      fine : (v : Body) → IsStatic v → IsHeld d column.Property v
      fine (property false s ss) h = (tt, h)
      fine _ h = absurd h

      which : (v : Body) → IsHeld d column.Property v → IsForm 0x28 (property_from true) (BothGood (IsSlotWithin d) (AllByRecursion (IsSlotWithin d))) IsStatic v
      which (property true s ss) good = inl ((s, ss), good.1, refl)
      which (property false s ss) good = inr (good.1, refl)
      which _ good = absurd good.0
  body_reads column.TypeSpec = change_reads type_spec (ret_reads known d nested cores some_depth) (λ u good. (tt, good)) (λ u. refl) back
    where
      back : (v : Body) → IsHeld d column.TypeSpec v → (u : Ret) × IsRetWithin d u × (type_spec u ≡ v)
      back (type_spec r) good = (r, good.1, refl)
      back _ good = absurd good.0
  body_reads column.Instance =
      form_reads 0x0A instance_body (counted_reads (typed_reads known d nested cores) known) fail_reads (λ u. refl) (λ u good. (tt, good)) (λ v h. absurd h) which
    where
      which : (v : Body) → IsHeld d column.Instance v → IsForm 0x0A instance_body (AllByRecursion (IsTypedWithin d)) Nothing v
      which (instance_body ts) good = inl (ts, good.1, refl)
      which _ good = absurd good.0

-- ---- what the reader's law says about whole byte lists

-- ---- the canonical encoding of each part is an encoding

module _ (number_short : (n : ℕ) → n < 2 ^ 29 → IsPacked n (short_unsigned n)) (signed_short : (z : ℤ) → FitsBits 29 z → IsPackedSigned z (short_signed z)) where
  short_part_encodes : (p : Part) → HasEncoding p → EncodesPart p (short_part p)
  short_part_encodes (byte c) h = refl
  short_part_encodes (number n) h = number_short n h
  short_part_encodes (signed z) h = signed_short z h
  short_part_encodes (index t) h =
      let few : h.0.tag < 3 = slice_get_within (tables_of TypeDefOrRef) h.0.tag (Some t.table) h.0.listed in
      let equal = h.0.equal in
      let row = h.1 in
      record { number = index_number t; coded = h.0; packed = number_short (index_number t) (omega arith) }

  short_encodes : (ps : List Part) → AllByRecursion HasEncoding ps → EncodesParts ps (flat_map short_part ps)
  short_encodes [] h = refl
  short_encodes (p ∷ ps) h = (short_part p, flat_map short_part ps, refl, short_part_encodes p h.0, short_encodes ps h.1)

  -- the canonical encoding is an encoding
  pub short_is_encoding : (kind : SigKind) (s : Body) → Holds kind s → IsEncodable s → Encodes kind s (short s)
  short_is_encoding kind s column h = record {
    column = column;
    body = h.body;
    parts = short_encodes (body_parts s) h.parts;
    limit = h.limit;
  }

-- ---- at most one signature is encoded, and it is the one that is read

column_reads : NumbersAreRead → (kind : SigKind) → Reads (body_at kind (core_at 128)) body_parts (IsHeld 128 kind)
column_reads known kind = body_reads known 128 (core_at 128) (core_reads known 128) (omega arith) kind

-- what bytes encode is read from them
pub encoded_read : NumbersAreRead → (kind : SigKind) (s : Body) (b : List ℕ) → Encodes kind s b → body_at kind (core_at 128) b ≡ Some (s, [])
encoded_read known kind s b h = (column_reads known kind).only b [] s (h.column, h.body) (Head-from_whole (body_parts s) b h.parts)

-- no bytes encode two signatures in one column
pub one_signature : NumbersAreRead → (kind : SigKind) (u v : Body) (b : List ℕ) → Encodes kind u b → Encodes kind v b → u ≡ v
one_signature known kind u v b h k =
    ap (λ (p : Body × List ℕ). p.0) (same_Some (u, []) (v, []) (sym (encoded_read known kind u b h) ∙ encoded_read known kind v b k))

-- what is read to the end is encoded so
pub read_encoded : NumbersAreRead → (kind : SigKind) (s : Body) (b : List ℕ) → IsBytes b → length b < 2 ^ 29 → body_at kind (core_at 128) b ≡ Some (s, []) → Encodes kind s b
read_encoded known kind s b bytes limit e =
    let read : Takes body_parts (IsHeld 128 kind) b (s, []) = rw e at ((column_reads known kind).found b bytes) in
    record { column = read.good.0; body = read.good.1; parts = Head-whole (body_parts s) b read.head; limit = limit }
