-- The items after the head of a method, a property, local variables and type arguments, and of an array's shape.
use Rattle.std.proofs.Common.{◌≡◌, ◌≢◌, ◌∙◌, ℕ, ℤ, suc, ◌-◌, ◌<◌, ◌≤◌, ◌/◌, ◌%◌, ◌&&◌, Bool, true, false, eqb, ltb, Option, Some, None, IfSome, List, [], ◌∷◌, ◌++◌, length, map, refl, sym, ap, arith}
use Rattle.sig_items.proofs.Prelude.{flat_map, option_map, option_and_then, ne_eqb, SigKind, slots_from, Reader, change, both, void_or, leading_within, leading_at, modifiers_at, many_at, counted_at, counted_within, number_at, signed_at, typed_at, slot_at, ret_at, params_at, generic_at, takes_sentinel, is_method_code, method_from, method_at, core_at, shape_at, shape_with, local_at, headed_at, property_from, body_at, Item, method_head, typed_items, slot_items, ret_items, local_items, method_items, shape_items, items_of, before_reported, and_report, joined, item_then, position_at, method_reported, field_reported, property_reported, variables_reported, arguments_reported, types_reported, params_items, params_reported, locals_reported, bounds_items, low_items, sizes_at, bounds_at}
use Rattle.std.proofs.lemmas.Bool.Decides.{nat_tests}
use Rattle.table_schema.specs.declared.column.SigKind.TheVariants as column
use Rattle.sig_grammar.specs.Syntax as sig
use Rattle.sig_items.specs.declared.item.Item.TheVariants as item
use Rattle.sig_items.specs.declared.position.Position.TheVariants as position
use Rattle.sig_items.proofs.Joins.{changed, paired, fused, item_fused}
use Rattle.sig_items.proofs.Counts.{HasCount, HasParams, many_count, counted_item, params_count, params_plain, joined_same}

-- ---- a method

module _ (c n d : ℕ) (allowed : Bool) (g : Option ℕ) where
  abbrev made : sig.Ret → (List sig.Slot × Option ℕ) → sig.Method
  made r p = sig.method (c % 16) (eqb (c / 32 % 2) 1) (eqb (c / 64 % 2) 1) g r (slots_from p.0) p.1

  abbrev head : ℕ → Item
  head k = method_head (c % 16) (eqb (c / 32 % 2) 1) (eqb (c / 64 % 2) 1) g k

  of_params : (r : sig.Ret) (o : Option ((List sig.Slot × Option ℕ) × List ℕ)) → IfSome o (HasParams n) → changed method_items (changed (made r) o) ≡ item_then (head n) (before_reported (ret_items r) (changed params_items o))
  of_params r None h = refl
  of_params r (Some p) h = ap (λ (k : ℕ). Some (head k ∷ (ret_items r ++ params_items p.0), p.1)) h

  of_ret : (o : Option (sig.Ret × List ℕ)) → changed method_items (option_and_then (λ (r : sig.Ret × List ℕ). changed (made r.0) (params_at (core_at d) allowed n r.1)) o) ≡ item_then (head n) (and_report (change params_items (params_at (core_at d) allowed n)) (changed ret_items o))
  of_ret None = refl
  of_ret (Some r) = of_params r.0 (params_at (core_at d) allowed n r.1) (params_count (core_at d) allowed n r.1)

pub method_is : (own allowed : Bool) (d c n : ℕ) (b b1 b2 b3 : List ℕ) (g : Option ℕ) → b ≡ c ∷ b1 → is_method_code c ≡ true → generic_at (eqb (c / 16 % 2) 1) b1 ≡ Some (g, b2) → number_at b2 ≡ Some (n, b3) → allowed ≡ (own && takes_sentinel (c % 16)) → method_reported own d b ≡ item_then (method_head (c % 16) (eqb (c / 32 % 2) 1) (eqb (c / 64 % 2) 1) g n) (joined (position_at (position.Ret d)) (params_reported n allowed d) b3)
unfolding method_reported method_at method_from position_at params_reported joined
method_is own allowed d c n b b1 b2 b3 g h k e f may = rw (h, k, e, f, ← may) (of_ret c n d allowed g (ret_at (core_at d) b3))

-- ---- a field, a property, local variables, type arguments

pub field_is : (b : List ℕ) → item_then item.Field (position_at (position.Slot 128) b) ≡ field_reported b
unfolding position_at field_reported
field_is b = item_fused item.Field slot_items sig.field items_of (λ x. refl) (slot_at (core_at 128) b)

module _ (this : Bool) (n : ℕ) where
  of_list : (s : sig.Slot) (o : Option (List sig.Slot × List ℕ)) → IfSome o (HasCount n) → changed items_of (changed (property_from this) (paired s o)) ≡ item_then (item.Property this n) (before_reported (slot_items s) (changed (flat_map slot_items) o))
  of_list s None h = refl
  of_list s (Some x) h = ap (λ (k : ℕ). Some (item.Property this k ∷ (slot_items s ++ flat_map slot_items x.0), x.1)) h

  of_slot : (o : Option (sig.Slot × List ℕ)) → changed items_of (changed (property_from this) (option_and_then (λ (x : sig.Slot × List ℕ). paired x.0 (many_at (slot_at (core_at 128)) n x.1)) o)) ≡ item_then (item.Property this n) (and_report (change (flat_map slot_items) (many_at (slot_at (core_at 128)) n)) (changed slot_items o))
  of_slot None = refl
  of_slot (Some x) = of_list x.0 (many_at (slot_at (core_at 128)) n x.1) (many_count (slot_at (core_at 128)) n x.1)

  property_plain : (b : List ℕ) → changed items_of (changed (property_from this) (both (slot_at (core_at 128)) (many_at (slot_at (core_at 128)) n) b)) ≡ item_then (item.Property this n) (joined (change slot_items (slot_at (core_at 128))) (change (flat_map slot_items) (many_at (slot_at (core_at 128)) n)) b)
  unfolding both joined
  property_plain b = of_slot (slot_at (core_at 128) b)

pub property_is : (this : Bool) (n : ℕ) (b tail : List ℕ) → number_at b ≡ Some (n, tail) → property_reported this b ≡ item_then (item.Property this n) (joined (position_at (position.Slot 128)) (params_reported n false 128) tail)
unfolding property_reported headed_at position_at
property_is this n b tail e =
    rw e (property_plain this n tail ∙ ap (item_then (item.Property this n)) (joined_same (change slot_items (slot_at (core_at 128))) (change (flat_map slot_items) (many_at (slot_at (core_at 128)) n)) (params_reported n false 128) tail (λ c. sym (params_plain n 128 c))))

pub locals_is : (n : ℕ) (b tail : List ℕ) → number_at b ≡ Some (n, tail) → variables_reported b ≡ item_then (item.Locals n) (locals_reported n 128 tail)
unfolding variables_reported counted_at locals_reported
locals_is n b tail e =
    rw e (fused sig.locals items_of (λ xs. items_of (sig.locals xs)) (λ xs. refl) (many_at (local_at (core_at 128)) n tail)
    ∙ sym (counted_item (λ k. item.Locals k) (flat_map local_items) (λ xs. items_of (sig.locals xs)) (local_at (core_at 128)) (λ xs. refl) n tail))

pub arguments_is : (n : ℕ) (b tail : List ℕ) → number_at b ≡ Some (n, tail) → arguments_reported b ≡ item_then (item.Arguments n) (types_reported n 128 tail)
unfolding arguments_reported counted_at types_reported
arguments_is n b tail e =
    rw e (fused sig.instance_body items_of (λ xs. items_of (sig.instance_body xs)) (λ xs. refl) (many_at (typed_at (core_at 128)) n tail)
    ∙ sym (counted_item (λ k. item.Arguments k) (flat_map typed_items) (λ xs. items_of (sig.instance_body xs)) (typed_at (core_at 128)) (λ xs. refl) n tail))

-- ---- whole signatures, by the kind of the column and the first byte

-- no signature is empty
pub body_end : (kind : SigKind) (b : List ℕ) → b ≡ [] → position_at (position.Body kind) b ≡ None
unfolding position_at body_at method_at ret_at both void_or modifiers_at leading_at leading_within
body_end column.Field b h = rw h refl
body_end _ b h = rw h refl

pub body_method_def : (b : List ℕ) → position_at (position.Body column.MethodDef) b ≡ method_reported false 128 b
unfolding position_at body_at method_reported
body_method_def b = fused sig.method_body items_of method_items (λ x. refl) (method_at false (core_at 128) b)

pub body_type_spec : (b : List ℕ) → position_at (position.Body column.TypeSpec) b ≡ position_at (position.Ret 128) b
unfolding position_at body_at
body_type_spec b = fused sig.type_spec items_of ret_items (λ x. refl) (ret_at (core_at 128) b)

pub member_method : (c : ℕ) (b tail : List ℕ) → b ≡ c ∷ tail → c ≢ 0x06 → position_at (position.Body column.MemberRef) b ≡ method_reported true 128 b
unfolding position_at body_at method_reported
member_method c b tail h p = rw (h, ne_eqb c 0x06 p) (fused sig.method_body items_of method_items (λ x. refl) (method_at true (core_at 128) (c ∷ tail)))

pub alone_method : (c : ℕ) (b tail : List ℕ) → b ≡ c ∷ tail → c ≢ 0x06 → c ≢ 0x07 → position_at (position.Body column.StandAlone) b ≡ method_reported true 128 b
unfolding position_at body_at method_reported
alone_method c b tail h p q = rw (h, ne_eqb c 0x06 p, ne_eqb c 0x07 q) (fused sig.method_body items_of method_items (λ x. refl) (method_at true (core_at 128) (c ∷ tail)))

pub ruleset body_items = (body_end, body_method_def, body_type_spec, member_method, alone_method)

-- ---- the shape of an array

-- a head with the number of values that are read first
counted_both : {A B : Type 0} (h : ℕ → Item) (f g : List A × B → List Item) (r : Reader A) (q : Reader B) → ((x : List A × B) → (h (length x.0) ∷ f x) ≡ g x) → (n : ℕ) (b : List ℕ) → item_then (h n) (change f (both (many_at r n) q) b) ≡ change g (both (many_at r n) q) b
unfolding both
counted_both {A = A} {B = B} h f g r q e n b = of_first (many_at r n b) (many_count r n b)
  where
    of_second : (xs : List A) → length xs ≡ n → (o : Option (B × List ℕ)) → item_then (h n) (changed f (paired xs o)) ≡ changed g (paired xs o)
    of_second xs k None = refl
    of_second xs k (Some y) = ap (λ (t : List Item). Some (t, y.1)) (ap (λ (m : ℕ). h m ∷ f (xs, y.0)) (sym k) ∙ e (xs, y.0))

    of_first : (o : Option (List A × List ℕ)) → IfSome o (HasCount n) → item_then (h n) (changed f (option_and_then (λ (x : List A × List ℕ). paired x.0 (q x.1)) o)) ≡ changed g (option_and_then (λ (x : List A × List ℕ). paired x.0 (q x.1)) o)
    of_first None k = refl
    of_first (Some x) k = of_second x.0 k (q x.1)

within_test : (n m : ℕ) → n ≤ m → ltb m n ≡ false
within_test n m h = grind (arith, nat_tests)

-- sizes after their count, and what follows
counted_is : (n m : ℕ) (b tail : List ℕ) → number_at b ≡ Some (m, tail) → m ≤ n → counted_within number_at n b ≡ many_at number_at m tail
unfolding counted_within
counted_is n m b tail e le = rw (e, within_test m n le) refl

sizes_moved : (n m : ℕ) (b tail : List ℕ) → number_at b ≡ Some (m, tail) → m ≤ n → both (counted_within number_at n) (counted_within signed_at n) b ≡ both (many_at number_at m) (counted_within signed_at n) tail
unfolding both
sizes_moved n m b tail e le = ap (λ (o : Option (List ℕ × List ℕ)). option_and_then (λ x. paired x.0 (counted_within signed_at n x.1)) o) (counted_is n m b tail e le)

shape_reported : (n m : ℕ) (b : List ℕ) → changed shape_items (changed (shape_with n) (both (many_at number_at m) (counted_within signed_at n) b)) ≡ item_then (item.Shape n m) (sizes_at m n b)
unfolding sizes_at
shape_reported n m b =
    fused (shape_with n) shape_items (λ x. shape_items (shape_with n x)) (λ x. refl) (both (many_at number_at m) (counted_within signed_at n) b)
    ∙ sym (counted_both (λ k. item.Shape n k) bounds_items (λ x. shape_items (shape_with n x)) number_at (counted_within signed_at n) (λ x. refl) m b)

pub shape_is : (n m : ℕ) (b b1 b2 : List ℕ) → number_at b ≡ Some (n, b1) → n ≢ 0 → number_at b1 ≡ Some (m, b2) → m ≤ n → position_at position.Shape b ≡ item_then (item.Shape n m) (sizes_at m n b2)
unfolding position_at shape_at
shape_is n m b b1 b2 e z f le = rw (e, ne_eqb n 0 z, sizes_moved n m b1 b2 f le) (shape_reported n m b2)

pub sizes_zero : (n rank : ℕ) (b : List ℕ) → n ≡ 0 → position_at (position.LowCount rank) b ≡ sizes_at n rank b
unfolding position_at sizes_at both many_at
sizes_zero n rank b h = rw h (of_low (counted_within signed_at rank b))
  where
    of_low : (o : Option (List ℤ × List ℕ)) → changed low_items o ≡ changed bounds_items (paired [] o)
    of_low None = refl
    of_low (Some x) = refl

pub sizes_more : (n rank : ℕ) (b : List ℕ) → 0 < n → position_at (position.Sizes (n - 1) rank) b ≡ sizes_at n rank b
unfolding position_at
sizes_more n rank b h = let e : suc (n - 1) ≡ n = omega arith in ap (λ (m : ℕ). sizes_at m rank b) e

pub size_is : (n rank x : ℕ) (b tail : List ℕ) → number_at b ≡ Some (x, tail) → position_at (position.Sizes n rank) b ≡ item_then (item.Size x) (sizes_at n rank tail)
unfolding position_at sizes_at both many_at
size_is n rank x b tail e = rw e (of_first (many_at number_at n tail))
  where
    of_second : (xs : List ℕ) (o : Option (List ℤ × List ℕ)) → changed bounds_items (paired (x ∷ xs) o) ≡ item_then (item.Size x) (changed bounds_items (paired xs o))
    of_second xs None = refl
    of_second xs (Some y) = refl

    of_first : (o : Option (List ℕ × List ℕ)) → changed bounds_items (option_and_then (λ (y : List ℕ × List ℕ). paired y.0 (counted_within signed_at rank y.1)) (option_map (λ (y : List ℕ × List ℕ). (x ∷ y.0, y.1)) o)) ≡ item_then (item.Size x) (changed bounds_items (option_and_then (λ (y : List ℕ × List ℕ). paired y.0 (counted_within signed_at rank y.1)) o))
    of_first None = refl
    of_first (Some y) = of_second y.0 (counted_within signed_at rank y.1)

pub low_is : (n rank : ℕ) (b tail : List ℕ) → number_at b ≡ Some (n, tail) → n ≤ rank → position_at (position.LowCount rank) b ≡ item_then (item.LowBounds n) (bounds_at n tail)
unfolding position_at counted_within bounds_at
low_is n rank b tail e le = rw (e, within_test n rank le) (sym (counted_item (λ k. item.LowBounds k) (map item.LowBound) low_items signed_at (λ xs. refl) n tail))

pub bounds_more : (n : ℕ) (b : List ℕ) → 0 < n → position_at (position.LowBounds (n - 1)) b ≡ bounds_at n b
unfolding position_at
bounds_more n b h = let e : suc (n - 1) ≡ n = omega arith in ap (λ (m : ℕ). bounds_at m b) e

pub bound_is : (n : ℕ) (z : ℤ) (b tail : List ℕ) → signed_at b ≡ Some (z, tail) → position_at (position.LowBounds n) b ≡ item_then (item.LowBound z) (bounds_at n tail)
unfolding position_at bounds_at many_at
bound_is n z b tail e = rw e (of_list (many_at signed_at n tail))
  where
    of_list : (o : Option (List ℤ × List ℕ)) → changed (map item.LowBound) (option_map (λ (y : List ℤ × List ℕ). (z ∷ y.0, y.1)) o) ≡ item_then (item.LowBound z) (changed (map item.LowBound) o)
    of_list None = refl
    of_list (Some y) = refl
