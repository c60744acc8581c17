-- The items at each position, by the first bytes there.
use Rattle.std.proofs.Common.{◌≡◌, ◌≢◌, ◌∙◌, ℕ, zero, suc, ◌-◌, ◌<◌, ◌||◌, Bool, true, false, cond, eqb, Option, Some, None, List, [], ◌∷◌, ◌++◌, length, map, refl, sym, ap, arith}
use Rattle.sig_items.proofs.Prelude.{flat_map, ne_eqb, Modifier, Prefix, types_from, Reader, change, both, many_at, counted_at, number_at, index_at, modifier_at, modifiers_at, prefix_at, prefixes_at, starts_modifier, starts_prefix, void_or, named_at, typed_at, target_at, pointer_to, content_at, slot_at, ret_from, ret_at, array_at, array_from, shape_at, instance_at, instance_from, method_at, core_at, core_by, element_of, local_at, local_from, Item, Position, prefix_item, core_items, typed_items, content_items, slot_items, ret_items, local_items, shape_items, method_items, Reported, joined, item_then, position_at, frame_at, core_reported, code_reported, instance_reported, content_reported, method_reported, types_reported, void_items, target_items, IsLed, modifier_steps, prefix_steps}
use Rattle.table_schema.specs.declared.token.Token.{Token}
use Rattle.sig_grammar.specs.declared.element.Element.{Element}
use Rattle.sig_grammar.specs.Syntax as sig
use Rattle.sig_items.specs.declared.item.Item.TheVariants as item
use Rattle.sig_items.specs.declared.position.Position.TheVariants as position
use Rattle.sig_items.specs.declared.position.Frame.TheVariants as frame
use Rattle.sig_items.proofs.Joins.{changed, paired, both_items, fused, item_fused, item_reported, joined_both}
use Rattle.sig_grammar.proofs.FromLists.{count-types_from}
use Rattle.sig_items.proofs.Leading.{led_at, led_next, led_none, led_end}
use Rattle.sig_items.proofs.Counts.{counted_item, types_from_items}

-- ---- a core, by its first byte

pub core_none : (d : ℕ) (b : List ℕ) → d ≡ 0 → core_reported d b ≡ None
unfolding core_reported core_at
core_none zero b h = refl
core_none (suc d) b h = absurd (omega arith)

pub core_end : (d : ℕ) (b : List ℕ) → b ≡ [] → core_reported d b ≡ None
unfolding core_reported core_at
core_end zero b h = refl
core_end (suc d) b h = rw h refl

pub core_simple : (d c : ℕ) (e : Element) (b tail : List ℕ) → 0 < d → b ≡ c ∷ tail → Some e ≡ element_of c → core_reported d b ≡ Some (item.Simple e ∷ [], tail)
unfolding core_reported core_at
core_simple zero c e b tail lt h k = absurd (omega arith)
core_simple (suc d) c e b tail lt h k = rw (h, ← k) refl

pub core_other : (d c : ℕ) (b tail : List ℕ) → 0 < d → b ≡ c ∷ tail → None ≡ element_of c → core_reported d b ≡ code_reported (d - 1) c tail
unfolding core_reported code_reported core_at
core_other zero c b tail lt h k = absurd (omega arith)
core_other (suc d) c b tail lt h k = let p : suc d - 1 ≡ d = omega arith in rw (h, ← k, p) refl

-- ---- a core, after its first byte

pub code_pointer : (d c : ℕ) (b : List ℕ) → c ≡ 0x0F → 0 < d → code_reported d c b ≡ item_then item.Pointer (position_at (position.Target d) b)
unfolding code_reported core_by position_at
code_pointer zero c b code lt = absurd (omega arith)
code_pointer (suc d) c b code lt = rw code (sym (item_fused item.Pointer target_items pointer_to core_items same (target_at (core_at (suc d)) b)))
  where
    same : (x : List Modifier × Option sig.Core) → (item.Pointer ∷ target_items x) ≡ core_items (pointer_to x)
    same (ms, None) = refl
    same (ms, Some to) = refl

pub code_function : (d c : ℕ) (b : List ℕ) → c ≡ 0x1B → 0 < d → code_reported d c b ≡ item_then item.Function (position_at (position.Method d) b)
unfolding code_reported core_by position_at method_reported
code_function zero c b code lt = absurd (omega arith)
code_function (suc d) c b code lt = rw code (sym (item_fused item.Function method_items sig.function core_items (λ x. refl) (method_at true (core_at (suc d)) b)))

-- the items after the code of a pointer and after that of a function, at any depth
pub pointer_reported : (d c : ℕ) (b : List ℕ) (t : Reported) → c ≡ 0x0F → (d ≡ 0 → t ≡ None) → (0 < d → t ≡ item_then item.Pointer (position_at (position.Target d) b)) → t ≡ code_reported d c b
unfolding code_reported core_by
pointer_reported zero c b t code none reported = rw code (none refl)
pointer_reported (suc d) c b t code none reported = reported (omega arith) ∙ sym (code_pointer (suc d) c b code (omega arith))

pub function_reported : (d c : ℕ) (b : List ℕ) (t : Reported) → c ≡ 0x1B → (d ≡ 0 → t ≡ None) → (0 < d → t ≡ item_then item.Function (position_at (position.Method d) b)) → t ≡ code_reported d c b
unfolding code_reported core_by
function_reported zero c b t code none reported = rw code (none refl)
function_reported (suc d) c b t code none reported = reported (omega arith) ∙ sym (code_function (suc d) c b code (omega arith))

pub code_vector : (d c : ℕ) (b : List ℕ) → c ≡ 0x1D → code_reported d c b ≡ item_then item.Vector (position_at (position.Typed d) b)
unfolding code_reported core_by position_at
code_vector d c b code = rw code (sym (item_fused item.Vector typed_items sig.vector core_items (λ x. refl) (typed_at (core_at d) b)))

pub code_array : (d c : ℕ) (b : List ℕ) → c ≡ 0x14 → code_reported d c b ≡ item_then item.Array (joined (position_at (position.Typed d)) (frame_at frame.Shape) b)
unfolding code_reported core_by position_at frame_at array_at
code_array d c b code =
    rw code (sym (ap (item_then item.Array) (joined_both typed_items shape_items (typed_at (core_at d)) shape_at b)
    ∙ item_fused item.Array (both_items typed_items shape_items) array_from core_items (λ x. refl) (both (typed_at (core_at d)) shape_at b)))

pub code_bad : (d c : ℕ) (b : List ℕ) → c ≢ 0x0F → c ≢ 0x11 → c ≢ 0x12 → c ≢ 0x13 → c ≢ 0x14 → c ≢ 0x15 → c ≢ 0x1B → c ≢ 0x1D → c ≢ 0x1E → code_reported d c b ≡ None
unfolding code_reported core_by
code_bad d c b p1 p2 p3 p4 p5 p6 p7 p8 p9 =
    rw (ne_eqb c 0x0F p1, ne_eqb c 0x11 p2, ne_eqb c 0x12 p3, ne_eqb c 0x13 p4, ne_eqb c 0x14 p5, ne_eqb c 0x15 p6, ne_eqb c 0x1B p7, ne_eqb c 0x1D p8, ne_eqb c 0x1E p9) refl

pub ruleset code_arms = (code_vector, code_array, code_bad)

pub ruleset core_arms = (core_none, core_end, core_simple, core_other)

-- ---- an instance

abbrev pub is_named : ℕ → Bool
is_named c = eqb c 0x11 || eqb c 0x12

named_is : (c : ℕ) (tail : List ℕ) → is_named c ≡ true → named_at (c ∷ tail) ≡ Some (eqb c 0x11, tail)
unfolding named_at
named_is c tail h = at_test (eqb c 0x11) (eqb c 0x12) h
  where
    at_test : (p q : Bool) → (p || q) ≡ true → cond {A = Option (Bool × List ℕ)} p (Some (true, tail)) (cond q (Some (false, tail)) None) ≡ Some (p, tail)
    at_test true q h = refl
    at_test false true h = refl
    at_test false false h = absurd cc

pub instance_is : (d c n : ℕ) (b b1 b2 b3 : List ℕ) (of : Token) → b ≡ c ∷ b1 → is_named c ≡ true → index_at b1 ≡ Some (of, b2) → number_at b2 ≡ Some (n, b3) → instance_reported d b ≡ item_then (item.Instance (eqb c 0x11) of n) (types_reported n d b3)
unfolding instance_reported instance_at both counted_at types_reported
instance_is d c n b b1 b2 b3 of h k e f =
    let m = named_is c b1 k in
    rw (h, m, e, f) (of_list (many_at (typed_at (core_at d)) n b3) ∙ sym (counted_item (λ k. item.Instance (eqb c 0x11) of k) (λ xs. flat_map typed_items xs) head (typed_at (core_at d)) same n b3))
  where
    head : List sig.Typed → List Item
    head xs = core_items (sig.instance (eqb c 0x11) of (types_from xs))

    same : (xs : List sig.Typed) → (item.Instance (eqb c 0x11) of (length xs) ∷ flat_map typed_items xs) ≡ core_items (sig.instance (eqb c 0x11) of (types_from xs))
    same xs = rw (count-types_from xs, types_from_items xs) refl

    of_list : (o : Option (List sig.Typed × List ℕ)) → changed core_items (changed instance_from (paired ((eqb c 0x11), of) o)) ≡ changed head o
    of_list None = refl
    of_list (Some x) = refl

-- ---- the kind of a parameter

typed_led : (d : ℕ) (b : List ℕ) → position_at (position.Typed d) b ≡ led_at modifier_at item.Modifier core_items (core_at d) b
unfolding position_at typed_at modifiers_at
typed_led d b = fused (λ x. sig.typed x.0 x.1) typed_items (λ (x : List Modifier × sig.Core). map item.Modifier x.0 ++ core_items x.1) (λ x. refl) (both modifiers_at (core_at d) b)

pub content_by_ref : (d c : ℕ) (b tail : List ℕ) → b ≡ c ∷ tail → c ≡ 0x10 → content_reported d b ≡ item_then item.ByRef (position_at (position.Typed d) tail)
unfolding content_reported content_at modifiers_at
content_by_ref d c b tail h code =
    rw (h, code, typed_led d tail) (sym (item_fused item.ByRef (λ (x : List Modifier × sig.Core). map item.Modifier x.0 ++ core_items x.1) (λ x. sig.by_ref x.0 x.1) content_items (λ x. refl) (both modifiers_at (core_at d) tail)))

pub content_other : (d c : ℕ) (b tail : List ℕ) → b ≡ c ∷ tail → c ≢ 0x16 → c ≢ 0x10 → content_reported d b ≡ core_reported d b
unfolding content_reported content_at core_reported
content_other d c b tail h p q = rw (h, ne_eqb c 0x16 p, ne_eqb c 0x10 q) (fused sig.plain content_items core_items (λ x. refl) (core_at d (c ∷ tail)))

-- ---- after modifiers

slot_led : (d : ℕ) (b : List ℕ) → position_at (position.Slot d) b ≡ led_at modifier_at item.Modifier content_items (content_at (core_at d)) b
unfolding position_at slot_at modifiers_at
slot_led d b = fused (λ x. sig.slot x.0 x.1) slot_items (λ (x : List Modifier × sig.Content). map item.Modifier x.0 ++ content_items x.1) (λ x. refl) (both modifiers_at (content_at (core_at d)) b)

target_led : (d : ℕ) (b : List ℕ) → position_at (position.Target d) b ≡ led_at modifier_at item.Modifier (void_items core_items) (void_or (core_at d)) b
unfolding position_at target_at modifiers_at
target_led d b = refl

ret_led : (d : ℕ) (b : List ℕ) → position_at (position.Ret d) b ≡ led_at modifier_at item.Modifier (void_items content_items) (void_or (content_at (core_at d))) b
unfolding position_at ret_at modifiers_at
ret_led d b = fused ret_from ret_items (λ (x : List Modifier × Option sig.Content). map item.Modifier x.0 ++ void_items content_items x.1) same (both modifiers_at (void_or (content_at (core_at d))) b)
  where
    same : (x : List Modifier × Option sig.Content) → ret_items (ret_from x) ≡ map item.Modifier x.0 ++ void_items content_items x.1
    same (ms, None) = refl
    same (ms, Some p) = refl

local_led : (d : ℕ) (b : List ℕ) → position_at (position.Local d) b ≡ led_at prefix_at prefix_item content_items (content_at (core_at d)) b
unfolding position_at local_at prefixes_at
local_led d b = fused local_from local_items (λ (x : List Prefix × sig.Content). map prefix_item x.0 ++ content_items x.1) (λ x. refl) (both prefixes_at (content_at (core_at d)) b)

pub position_led : (p : Position) (b tail : List ℕ) (m : Modifier) → IsLed p → modifier_at b ≡ Some (Some m, tail) → position_at p b ≡ item_then (item.Modifier m) (position_at p tail)
position_led (position.Typed d) b tail m h e = rw (typed_led d b, typed_led d tail) (led_next modifier_at starts_modifier modifier_steps item.Modifier core_items (core_at d) b tail m e)
position_led (position.Target d) b tail m h e = rw (target_led d b, target_led d tail) (led_next modifier_at starts_modifier modifier_steps item.Modifier (void_items core_items) (void_or (core_at d)) b tail m e)
position_led (position.Slot d) b tail m h e = rw (slot_led d b, slot_led d tail) (led_next modifier_at starts_modifier modifier_steps item.Modifier content_items (content_at (core_at d)) b tail m e)
position_led (position.Ret d) b tail m h e = rw (ret_led d b, ret_led d tail) (led_next modifier_at starts_modifier modifier_steps item.Modifier (void_items content_items) (void_or (content_at (core_at d))) b tail m e)
position_led _ b tail m h e = absurd h

pub position_led_none : (p : Position) (b : List ℕ) → IsLed p → modifier_at b ≡ None → position_at p b ≡ None
position_led_none (position.Typed d) b h e = rw (typed_led d b) (led_none modifier_at starts_modifier modifier_steps item.Modifier core_items (core_at d) b e)
position_led_none (position.Target d) b h e = rw (target_led d b) (led_none modifier_at starts_modifier modifier_steps item.Modifier (void_items core_items) (void_or (core_at d)) b e)
position_led_none (position.Slot d) b h e = rw (slot_led d b) (led_none modifier_at starts_modifier modifier_steps item.Modifier content_items (content_at (core_at d)) b e)
position_led_none (position.Ret d) b h e = rw (ret_led d b) (led_none modifier_at starts_modifier modifier_steps item.Modifier (void_items content_items) (void_or (content_at (core_at d))) b e)
position_led_none _ b h e = absurd h

pub local_next : (d : ℕ) (b tail : List ℕ) (p : Prefix) → prefix_at b ≡ Some (Some p, tail) → position_at (position.Local d) b ≡ item_then (prefix_item p) (position_at (position.Local d) tail)
local_next d b tail p e = rw (local_led d b, local_led d tail) (led_next prefix_at starts_prefix prefix_steps prefix_item content_items (content_at (core_at d)) b tail p e)

pub local_none : (d : ℕ) (b : List ℕ) → prefix_at b ≡ None → position_at (position.Local d) b ≡ None
local_none d b e = rw (local_led d b) (led_none prefix_at starts_prefix prefix_steps prefix_item content_items (content_at (core_at d)) b e)

pub local_bare : (d : ℕ) (b : List ℕ) → starts_prefix b ≡ false → position_at (position.Local d) b ≡ content_reported d b
unfolding content_reported
local_bare d b h = rw (local_led d b) (led_end prefix_at starts_prefix prefix_steps prefix_item content_items (content_at (core_at d)) b h)

pub typed_bare : (d : ℕ) (b : List ℕ) → starts_modifier b ≡ false → position_at (position.Typed d) b ≡ core_reported d b
unfolding core_reported
typed_bare d b h = rw (typed_led d b) (led_end modifier_at starts_modifier modifier_steps item.Modifier core_items (core_at d) b h)

pub slot_bare : (d : ℕ) (b : List ℕ) → starts_modifier b ≡ false → position_at (position.Slot d) b ≡ content_reported d b
unfolding content_reported
slot_bare d b h = rw (slot_led d b) (led_end modifier_at starts_modifier modifier_steps item.Modifier content_items (content_at (core_at d)) b h)

target_bare : (d : ℕ) (b : List ℕ) → starts_modifier b ≡ false → position_at (position.Target d) b ≡ change (void_items core_items) (void_or (core_at d)) b
target_bare d b h = rw (target_led d b) (led_end modifier_at starts_modifier modifier_steps item.Modifier (void_items core_items) (void_or (core_at d)) b h)

ret_bare : (d : ℕ) (b : List ℕ) → starts_modifier b ≡ false → position_at (position.Ret d) b ≡ change (void_items content_items) (void_or (content_at (core_at d))) b
ret_bare d b h = rw (ret_led d b) (led_end modifier_at starts_modifier modifier_steps item.Modifier (void_items content_items) (void_or (content_at (core_at d))) b h)

-- ---- VOID, or another value

module _ {A : Type 0} (items : A → List Item) (r : Reader A) where
  void_end : (b : List ℕ) → b ≡ [] → change (void_items items) (void_or r) b ≡ None
  unfolding void_or
  void_end b h = rw h refl

  void_first : (c : ℕ) (b tail : List ℕ) → b ≡ c ∷ tail → c ≡ 0x01 → change (void_items items) (void_or r) b ≡ Some (item.Void ∷ [], tail)
  unfolding void_or
  void_first c b tail h code = rw (h, code) refl

  void_other : (c : ℕ) (b tail : List ℕ) → b ≡ c ∷ tail → c ≢ 0x01 → change (void_items items) (void_or r) b ≡ change items r b
  unfolding void_or
  void_other c b tail h p = rw (h, ne_eqb c 0x01 p) (fused (λ x. Some x) (void_items items) items (λ x. refl) (r (c ∷ tail)))

pub target_end : (d : ℕ) (b : List ℕ) → starts_modifier b ≡ false → b ≡ [] → position_at (position.Target d) b ≡ None
target_end d b s h = target_bare d b s ∙ void_end core_items (core_at d) b h

pub target_void : (d c : ℕ) (b tail : List ℕ) → starts_modifier b ≡ false → b ≡ c ∷ tail → c ≡ 0x01 → position_at (position.Target d) b ≡ Some (item.Void ∷ [], tail)
target_void d c b tail s h code = target_bare d b s ∙ void_first core_items (core_at d) c b tail h code

pub target_core : (d c : ℕ) (b tail : List ℕ) → starts_modifier b ≡ false → b ≡ c ∷ tail → c ≢ 0x01 → position_at (position.Target d) b ≡ core_reported d b
unfolding core_reported
target_core d c b tail s h p = target_bare d b s ∙ void_other core_items (core_at d) c b tail h p

pub ret_end : (d : ℕ) (b : List ℕ) → starts_modifier b ≡ false → b ≡ [] → position_at (position.Ret d) b ≡ None
ret_end d b s h = ret_bare d b s ∙ void_end content_items (content_at (core_at d)) b h

pub ret_void : (d c : ℕ) (b tail : List ℕ) → starts_modifier b ≡ false → b ≡ c ∷ tail → c ≡ 0x01 → position_at (position.Ret d) b ≡ Some (item.Void ∷ [], tail)
ret_void d c b tail s h code = ret_bare d b s ∙ void_first content_items (content_at (core_at d)) c b tail h code

pub ret_content : (d c : ℕ) (b tail : List ℕ) → starts_modifier b ≡ false → b ≡ c ∷ tail → c ≢ 0x01 → position_at (position.Ret d) b ≡ content_reported d b
unfolding content_reported
ret_content d c b tail s h p = ret_bare d b s ∙ void_other content_items (content_at (core_at d)) c b tail h p

pub marked_first : (d c : ℕ) (b tail : List ℕ) → b ≡ c ∷ tail → c ≡ 0x41 → position_at (position.Marked d) b ≡ item_then item.Sentinel (position_at (position.Slot d) tail)
unfolding position_at
marked_first d c b tail h code = rw (h, code) (sym (item_reported item.Sentinel slot_items (λ s. item.Sentinel ∷ slot_items s) (λ s. refl) (slot_at (core_at d) tail)))
