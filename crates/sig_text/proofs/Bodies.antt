-- What is shown of the bytes that encode a whole signature is its text.
use Rattle.sig_text.proofs.Prelude.{◌≡◌, ◌≢◌, ℕ, zero, suc, ◌+◌, ◌%◌, ◌<◌, ◌≤◌, subst, Bool, true, false, eqb, List, [], ◌∷◌, ◌++◌, length, None, Some, Option, refl, ap, arith, inl, inr, ne_eqb, Part, number, list_parts, slot_parts, slots_parts, typed_parts, content_parts, local_parts, ret_parts, method_parts, body_parts, count_slots, ret_depth, slots_depth, IsRet, AreSlots, IsMethodKind, IsTypedWithin, IsSlotWithin, IsLocalWithin, IsMethodWithin, IsBodyWithin, Slot, Slots, no_slots, slot_then, Ret, some_ret, Method, method, LocalVariable, local, Typed, Body, field, method_body, property, locals, instance_body, type_spec, Piece, comma, listed, slot_text, typed_text, content_text, local_text, method_text, text_of, named_slots_text, declared_text, Shown, CoreShown, listed_shown, enclosed_shown, core_shown, property_shown, counted_shown, headed_shown, body_shown, named_slots_shown, declared_shown, member_shown}
use Rattle.std.specs.List.{AllByRecursion}
use Rattle.table_schema.specs.declared.column.SigKind.{SigKind}
use Rattle.table_schema.specs.declared.column.SigKind.TheVariants as column
use Rattle.sig_grammar.specs.Encodes.{Holds, Encodes}
use Rattle.sig_grammar.specs.Views.{slots_from}
use Rattle.sig_grammar.proofs.FromLists.{count-slots_from, parts-slots_from, slots_good}
use Rattle.sig_text.specs.Declares.{Declares, as_method, member_text}
use Rattle.sig_text.proofs.Encoded.{Head, whole_head, split_head, first_byte, NumbersAreRead, first_number, ReadsSlot, kind_few, led, content_read, typed_read, slot_read, ret_read, method_read, method_head}

module _ (known : NumbersAreRead) (d : ℕ) where
  local_read : (l : LocalVariable) (b remainder : List ℕ) → IsLocalWithin d l → Head (local_parts l) b remainder → ReadsSlot (core_shown d) b (local_text l) remainder
  local_read (local prefixes p) b remainder is h = led known (core_shown d) prefixes (content_parts p) (content_text p) b remainder (content_read known p d remainder is.0 is.1) h

  many_read : {A : Type 0} (parts : A → List Part) (text : A → List Piece) (Good : A → Type 0) → ((x : A) (b remainder : List ℕ) → Good x → Head (parts x) b remainder → ReadsSlot (core_shown d) b (text x) remainder)
      → (xs : List A) (before : List Piece) (b remainder : List ℕ) → AllByRecursion Good xs → Head (list_parts parts xs) b remainder → listed_shown (core_shown d) before (length xs) b ≡ (listed text before xs, remainder)
  unfolding listed_shown
  many_read parts text Good each [] before b remainder good h = ap (λ (t : List ℕ). ([], t)) h
  many_read parts text Good each (x ∷ xs) before b remainder good h =
      let s = split_head (parts x) (list_parts parts xs) b remainder h in
      let first = each x b s.0 good.0 s.1 in
      let more = many_read parts text Good each xs comma s.0 remainder good.1 s.2 in
      rw (first.0, first.1, more) refl

  typed_each : (t : Typed) (b remainder : List ℕ) → IsTypedWithin d t → Head (typed_parts t) b remainder → ReadsSlot (core_shown d) b (typed_text t) remainder
  typed_each t b remainder is h = typed_read known t d b remainder is.0 is.1 h

  slot_each : (s : Slot) (b remainder : List ℕ) → IsSlotWithin d s → Head (slot_parts s) b remainder → ReadsSlot (core_shown d) b (slot_text s) remainder
  slot_each s b remainder is h = slot_read known s d b remainder is.0 is.1 h

  field_read : (s : Slot) (b : List ℕ) → IsSlotWithin d s → Head (body_parts (field s)) b [] → (headed_shown (core_shown d) b).0 ≡ slot_text s
  unfolding headed_shown
  field_read s b is h = let f = first_byte 0x06 (slot_parts s) b [] h in let x = slot_each s f.0 [] is f.2 in rw (f.1, x.1) refl

  locals_read : (variables : List LocalVariable) (b : List ℕ) → AllByRecursion (IsLocalWithin d) variables → Head (body_parts (locals variables)) b [] → (headed_shown (core_shown d) b).0 ≡ text_of (locals variables)
  unfolding headed_shown counted_shown enclosed_shown
  locals_read variables b is h =
      let f = first_byte 0x07 (number (length variables) ∷ list_parts local_parts variables) b [] h in
      let count = first_number known (length variables) (list_parts local_parts variables) f.0 [] f.2 in
      let all = many_read local_parts local_text (IsLocalWithin d) local_read variables [] count.0 [] is count.2 in
      rw (f.1, count.1, all) refl

  arguments_read : (args : List Typed) (b : List ℕ) → AllByRecursion (IsTypedWithin d) args → Head (body_parts (instance_body args)) b [] → (headed_shown (core_shown d) b).0 ≡ text_of (instance_body args)
  unfolding headed_shown counted_shown enclosed_shown
  arguments_read args b is h =
      let f = first_byte 0x0A (number (length args) ∷ list_parts typed_parts args) b [] h in
      let count = first_number known (length args) (list_parts typed_parts args) f.0 [] f.2 in
      let all = many_read typed_parts typed_text (IsTypedWithin d) typed_each args [] count.0 [] is count.2 in
      rw (f.1, count.1, all) refl

  property_is : (this : Bool) (of : Slot) (params : List Slot) (c : ℕ) (b : List ℕ) → eqb c 0x28 ≡ this → IsBodyWithin d (property this of params) → Head (number (length params) ∷ (slot_parts of ++ list_parts slot_parts params)) b [] → (property_shown (core_shown d) c b).0 ≡ text_of (property this of params)
  unfolding property_shown enclosed_shown
  property_is this of params c b e is h =
      let count = first_number known (length params) (slot_parts of ++ list_parts slot_parts params) b [] h in
      let s = split_head (slot_parts of) (list_parts slot_parts params) count.0 [] count.2 in
      let type = slot_each of count.0 s.0 is.0 s.1 in
      let all = many_read slot_parts slot_text (IsSlotWithin d) slot_each params [] s.0 [] is.1 s.2 in
      rw (e, count.1, type.1, all) refl

  property_read : (this : Bool) (of : Slot) (params : List Slot) (b : List ℕ) → IsBodyWithin d (property this of params) → Head (body_parts (property this of params)) b [] → (headed_shown (core_shown d) b).0 ≡ text_of (property this of params)
  unfolding headed_shown
  property_read true of params b is h = let f = first_byte 0x28 (number (length params) ∷ (slot_parts of ++ list_parts slot_parts params)) b [] h in rw f.1 (property_is true of params 0x28 f.0 refl is f.2)
  property_read false of params b is h = let f = first_byte 0x08 (number (length params) ∷ (slot_parts of ++ list_parts slot_parts params)) b [] h in rw f.1 (property_is false of params 0x08 f.0 refl is f.2)

  -- no other signature begins as a method does
  other_code : (c kind k : ℕ) → IsMethodKind kind → c % 16 ≡ kind → 6 ≤ k % 16 → k % 16 ≢ 9 → eqb c k ≡ false
  other_code c kind k (inl h) e low not = ne_eqb c k (λ f. omega (arith, ap (λ (n : ℕ). n % 16) f))
  other_code c kind k (inr h) e low not = ne_eqb c k (λ f. not (omega (arith, ap (λ (n : ℕ). n % 16) f)))

  method_headed : (m : Method) (b : List ℕ) → IsMethodWithin d m → Head (method_parts m) b [] → (headed_shown (core_shown d) b).0 ≡ method_text m
  unfolding headed_shown
  method_headed (method kind this explicit generic ret params sentinel) b is h =
      let code = method_head known kind this explicit generic (number (count_slots params) ∷ (ret_parts ret ++ slots_parts params sentinel)) b [] (kind_few kind is.1.0) h in
      let x = method_read known (method kind this explicit generic ret params sentinel) d b [] is.0 is.1 h in
      let y = rw code.bytes at x in
      let no : (k : ℕ) → 6 ≤ k % 16 → k % 16 ≢ 9 → eqb code.code k ≡ false = λ k. other_code code.code kind k is.1.0 code.kind in
      rw (code.bytes, no 0x06 (omega arith) (λ e. omega arith), no 0x07 (omega arith) (λ e. omega arith), no 0x0A (omega arith) (λ e. omega arith), no 0x08 (omega arith) (λ e. omega arith), no 0x28 (omega arith) (λ e. omega arith), y) refl

  body_read : (kind : SigKind) (signature : Body) (b : List ℕ) → Holds kind signature → IsBodyWithin d signature → Head (body_parts signature) b [] → body_shown (core_shown d) kind b ≡ text_of signature
  unfolding body_shown
  body_read column.TypeSpec (type_spec ret) b holds is h = ap (λ (x : Shown). x.0) (ret_read known ret d b [] is.0 is.1 h)
  body_read column.Field (field s) b holds is h = field_read s b is h
  body_read column.MemberRef (field s) b holds is h = field_read s b is h
  body_read column.StandAlone (field s) b holds is h = field_read s b is h
  body_read column.MethodDef (method_body m) b holds is h = method_headed m b is h
  body_read column.MemberRef (method_body m) b holds is h = method_headed m b is h
  body_read column.StandAlone (method_body m) b holds is h = method_headed m b is h
  body_read column.StandAlone (locals variables) b holds is h = locals_read variables b is h
  body_read column.Property (property this of params) b holds is h = property_read this of params b is h
  body_read column.Instance (instance_body args) b holds is h = arguments_read args b is h
  body_read _ _ b holds is h = absurd holds

  -- ---- the declaration of a method

  named_read : (ss : Slots) (sentinel : Option ℕ) (before : List Piece) (position : ℕ) (b remainder : List ℕ) → slots_depth ss ≤ d → AreSlots ss → Head (slots_parts ss sentinel) b remainder → named_slots_shown (core_shown d) before position (count_slots ss) b ≡ named_slots_text before position ss sentinel
  unfolding named_slots_shown
  named_read no_slots sentinel before position b remainder le is h = refl
  named_read (slot_then s ss) None before position b remainder le is h =
      let m = split_head (slot_parts s) (slots_parts ss None) b remainder h in
      let x = slot_read known s d b m.0 (omega arith) is.0 m.1 in
      let more = named_read ss None comma (position + 1) m.0 remainder (omega arith) is.1 m.2 in
      rw (x.0, x.1, more) refl
  named_read (slot_then s ss) (Some zero) before position b remainder le is h =
      let f = first_byte 0x41 (slot_parts s ++ slots_parts ss None) b remainder h in
      let m = split_head (slot_parts s) (slots_parts ss None) f.0 remainder f.2 in
      let x = slot_read known s d f.0 m.0 (omega arith) is.0 m.1 in
      let more = named_read ss None comma (position + 1) m.0 remainder (omega arith) is.1 m.2 in
      rw (f.1, x.1, more) refl
  named_read (slot_then s ss) (Some (suc n)) before position b remainder le is h =
      let m = split_head (slot_parts s) (slots_parts ss (Some n)) b remainder h in
      let x = slot_read known s d b m.0 (omega arith) is.0 m.1 in
      let more = named_read ss (Some n) comma (position + 1) m.0 remainder (omega arith) is.1 m.2 in
      rw (x.0, x.1, more) refl

  declared_read : (kind : ℕ) (this explicit : Bool) (generic : Option ℕ) (ret : Ret) (params : Slots) (sentinel : Option ℕ) (b : List ℕ) → kind < 16 → ret_depth ret ≤ d → slots_depth params ≤ d → IsRet ret → AreSlots params
      → Head (method_parts (method kind this explicit generic ret params sentinel)) b [] → declared_shown (core_shown d) b ≡ declared_text (method kind this explicit generic ret params sentinel)
  unfolding declared_shown
  declared_read kind this explicit generic ret params sentinel b few deep most is are h =
      let code = method_head known kind this explicit generic (number (count_slots params) ∷ (ret_parts ret ++ slots_parts params sentinel)) b [] few h in
      let count = first_number known (count_slots params) (ret_parts ret ++ slots_parts params sentinel) code.after [] code.more in
      let s = split_head (ret_parts ret) (slots_parts params sentinel) count.0 [] count.2 in
      let of = ret_read known ret d count.0 s.0 deep is s.1 in
      let all = named_read params sentinel [] 1 s.0 [] most are s.2 in
      rw (code.bytes, code.kind, code.this, code.explicit, code.generic, count.1, of, all) refl

  declared_method : (m : Method) (b : List ℕ) → IsMethodWithin d m → Head (method_parts m) b [] → declared_shown (core_shown d) b ≡ declared_text m
  declared_method (method kind this explicit generic ret params sentinel) b is h =
      declared_read kind this explicit generic ret params sentinel b (kind_few kind is.1.0) (omega (arith, is.0)) (omega (arith, is.0)) is.1.2 is.1.3 h

  property_parts : (this : Bool) (of : Slot) (params : List Slot) → body_parts (property this of params) ≡ method_parts (as_method this of params)
  property_parts true of params = rw (count-slots_from params, parts-slots_from params) refl
  property_parts false of params = rw (count-slots_from params, parts-slots_from params) refl

  declared_property : (this : Bool) (of : Slot) (params : List Slot) (b : List ℕ) → IsBodyWithin d (property this of params) → Head (body_parts (property this of params)) b [] → declared_shown (core_shown d) b ≡ declared_text (as_method this of params)
  declared_property this of params b is h =
      let good = slots_good d params is.1 in
      declared_read 8 this false None (some_ret of) (slots_from params) None b (omega arith) is.0.0 good.0 is.0.1 good.1
      (subst (λ (ps : List Part). Head ps b []) (property_parts this of params) h)

  -- ---- a method, a property, or a field

  field_member : (s : Slot) (b : List ℕ) → IsSlotWithin d s → Head (body_parts (field s)) b [] → member_shown (core_shown d) b ≡ member_text (field s)
  unfolding member_shown
  field_member s b is h = let f = first_byte 0x06 (slot_parts s) b [] h in let x = slot_each s f.0 [] is f.2 in rw (f.1, x.1) refl

  method_member : (m : Method) (b : List ℕ) → IsMethodWithin d m → Head (method_parts m) b [] → member_shown (core_shown d) b ≡ declared_text m
  unfolding member_shown
  method_member (method kind this explicit generic ret params sentinel) b is h =
      let code = method_head known kind this explicit generic (number (count_slots params) ∷ (ret_parts ret ++ slots_parts params sentinel)) b [] (kind_few kind is.1.0) h in
      let x = declared_method (method kind this explicit generic ret params sentinel) b is h in
      let y = rw code.bytes at x in
      rw (code.bytes, other_code code.code kind 0x06 is.1.0 code.kind (omega arith) (λ e. omega arith), y) refl

  property_member : (this : Bool) (of : Slot) (params : List Slot) (b : List ℕ) → IsBodyWithin d (property this of params) → Head (body_parts (property this of params)) b [] → member_shown (core_shown d) b ≡ member_text (property this of params)
  unfolding member_shown
  property_member true of params b is h =
      let f = first_byte 0x28 (number (length params) ∷ (slot_parts of ++ list_parts slot_parts params)) b [] h in
      let x = declared_property true of params b is h in
      let y = rw f.1 at x in
      rw (f.1, y) refl
  property_member false of params b is h =
      let f = first_byte 0x08 (number (length params) ∷ (slot_parts of ++ list_parts slot_parts params)) b [] h in
      let x = declared_property false of params b is h in
      let y = rw f.1 at x in
      rw (f.1, y) refl

-- ---- at the depth of all signatures

pub body_is : NumbersAreRead → (kind : SigKind) (signature : Body) (b : List ℕ) → Encodes kind signature b → body_shown (core_shown 128) kind b ≡ text_of signature
body_is known kind signature b e = body_read known 128 kind signature b e.column e.body (whole_head (body_parts signature) b e.parts)

pub member_is : NumbersAreRead → (signature : Body) (b : List ℕ) → Declares signature b → member_shown (core_shown 128) b ≡ member_text signature
member_is known (method_body m) b (inl e) = method_member known 128 m b e.body (whole_head (method_parts m) b e.parts)
member_is known (property this of params) b (inr (inl e)) = property_member known 128 this of params b e.body (whole_head (body_parts (property this of params)) b e.parts)
member_is known (field s) b (inr (inr e)) = field_member known 128 s b e.body (whole_head (body_parts (field s)) b e.parts)
member_is known (method_body m) b (inr (inr e)) = method_member known 128 m b e.body (whole_head (method_parts m) b e.parts)
member_is known _ b (inl e) = absurd e.column
member_is known _ b (inr (inl e)) = absurd e.column
member_is known _ b (inr (inr e)) = absurd e.column

pub body_other : (core : CoreShown) (kind : SigKind) (b : List ℕ) → kind ≢ column.TypeSpec → body_shown core kind b ≡ (headed_shown core b).0
unfolding body_shown
body_other core column.TypeSpec b h = absurd (h refl)
body_other core _ b h = refl
