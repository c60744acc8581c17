-- Counted values: the number of values that are read, and the first value with those after it.
use Rattle.sig_items.proofs.Prelude.{◌≡◌, ◌∙◌, ℕ, zero, suc, ◌-◌, ◌<◌, ◌&&◌, Bool, true, false, cond, Option, Some, None, IfSome, List, [], ◌∷◌, ◌++◌, length, drop, append-nil, refl, sym, ap, arith, option_map, option_and_then, flat_map, count_slots, types_from, slots_from, Core, Typed, Slot, Reader, change, many_at, typed_at, slot_at, params_at, core_at, head_is, local_at, Item, Position, Frame, typed_items, types_items, slot_items, slots_items, local_items, Reported, Reporter, before_reported, and_report, joined, item_then, next_at, position_at, frame_at, types_reported, params_items, params_reported, locals_reported}
use Rattle.sig_items.specs.declared.item.Item.TheVariants as item
use Rattle.sig_items.specs.declared.position.Position.TheVariants as position
use Rattle.sig_items.specs.declared.position.Frame.TheVariants as frame
use Rattle.sig_items.proofs.Joins.{changed}

-- ---- the number of values that are read

-- one more value
abbrev prefixed : {A : Type 0} → A → Option (List A × List ℕ) → Option (List A × List ℕ)
prefixed x o = option_map (λ y. (x ∷ y.0, y.1)) o

abbrev pub HasCount : {A : Type 0} → ℕ → List A × List ℕ → Type 0
HasCount n x = length x.0 ≡ n

pub many_count : {A : Type 0} (r : Reader A) (n : ℕ) (b : List ℕ) → IfSome (many_at r n b) (HasCount n)
unfolding many_at
many_count r zero b = refl
many_count {A = A} r (suc n) b = of_first (r b) (λ c. many_count r n c)
  where
    of_tail : (x : A) (o : Option (List A × List ℕ)) → IfSome o (HasCount n) → IfSome (prefixed x o) (HasCount (suc n))
    of_tail x None h = tt
    of_tail x (Some y) h = ap suc h

    of_first : (o : Option (A × List ℕ)) → ((c : List ℕ) → IfSome (many_at r n c) (HasCount n)) → IfSome (option_and_then (λ (x : A × List ℕ). prefixed x.0 (many_at r n x.1)) o) (HasCount (suc n))
    of_first None more = tt
    of_first (Some x) more = of_tail x.0 (many_at r n x.1) (more x.1)

-- a head with the count, and the items of the values
pub counted_item : {A : Type 0} (h : ℕ → Item) (f g : List A → List Item) (r : Reader A) → ((xs : List A) → (h (length xs) ∷ f xs) ≡ g xs) → (n : ℕ) (b : List ℕ) → item_then (h n) (change f (many_at r n) b) ≡ change g (many_at r n) b
counted_item {A = A} h f g r e n b = of_option (many_at r n b) (many_count r n b)
  where
    of_option : (o : Option (List A × List ℕ)) → IfSome o (HasCount n) → item_then (h n) (changed f o) ≡ changed g o
    of_option None k = refl
    of_option (Some x) k = ap (λ (t : List Item). Some (t, x.1)) (ap (λ (m : ℕ). h m ∷ f x.0) (sym k) ∙ e x.0)

pub types_from_items : (xs : List Typed) → types_items (types_from xs) ≡ flat_map typed_items xs
types_from_items [] = refl
types_from_items (x ∷ xs) = ap (λ (t : List Item). typed_items x ++ t) (types_from_items xs)

pub slots_from_items : (xs : List Slot) → slots_items (slots_from xs) None ≡ flat_map slot_items xs
slots_from_items [] = refl
slots_from_items (x ∷ xs) = ap (λ (t : List Item). slot_items x ++ t) (slots_from_items xs)

-- ---- the first value, and those after it

pub many_joined : {A : Type 0} (items : A → List Item) (r : Reader A) (n : ℕ) (b : List ℕ) → joined (change items r) (change (flat_map items) (many_at r n)) b ≡ change (flat_map items) (many_at r (suc n)) b
unfolding joined many_at
many_joined {A = A} items r n b = of_first (r b)
  where
    of_tail : (x : A) (o : Option (List A × List ℕ)) → before_reported (items x) (changed (flat_map items) o) ≡ changed (flat_map items) (prefixed x o)
    of_tail x None = refl
    of_tail x (Some y) = refl

    of_first : (o : Option (A × List ℕ)) → and_report (change (flat_map items) (many_at r n)) (changed items o) ≡ changed (flat_map items) (option_and_then (λ (x : A × List ℕ). prefixed x.0 (many_at r n x.1)) o)
    of_first None = refl
    of_first (Some x) = of_tail x.0 (many_at r n x.1)

pub joined_same : (p q r : Reporter) (b : List ℕ) → ((c : List ℕ) → q c ≡ r c) → joined p q b ≡ joined p r b
unfolding joined
joined_same p q r b same = of_first (p b)
  where
    of_first : (o : Reported) → and_report q o ≡ and_report r o
    of_first None = refl
    of_first (Some x) = ap (λ (t : Reported). before_reported x.0 t) (same x.1)

joined_nothing : (p : Reporter) (b : List ℕ) → p b ≡ joined p (λ c. Some ([], c)) b
unfolding joined
joined_nothing p b = of_first (p b)
  where
    of_first : (o : Reported) → o ≡ and_report (λ c. Some ([], c)) o
    of_first None = refl
    of_first (Some x) = ap (λ (t : List Item). Some (t, x.1)) (sym (append-nil x.0))

-- a position, and what may follow it
pub next_joined : (f : Option Frame) (p : Position) (t : Reporter) (b : List ℕ) → ((c : List ℕ) → next_at f None c ≡ t c) → next_at f (Some p) b ≡ joined (position_at p) t b
next_joined None p t b same = joined_nothing (position_at p) b ∙ joined_same (position_at p) (λ c. Some ([], c)) t b same
next_joined (Some f) p t b same = joined_same (position_at p) (frame_at f) t b same

-- ---- types, parameters and local variables

one_less : (n : ℕ) → 0 < n → suc (n - 1) ≡ n
one_less n h = omega arith

pub types_more : (n d : ℕ) (b : List ℕ) → 0 < n → frame_at (frame.Types (n - 1) d) b ≡ types_reported n d b
unfolding frame_at
types_more n d b h = ap (λ (m : ℕ). types_reported m d b) (one_less n h)

pub locals_more : (n d : ℕ) (b : List ℕ) → 0 < n → frame_at (frame.Locals (n - 1) d) b ≡ locals_reported n d b
unfolding frame_at
locals_more n d b h = ap (λ (m : ℕ). locals_reported m d b) (one_less n h)

pub params_more : (n d : ℕ) (allowed : Bool) (b : List ℕ) → 0 < n → frame_at (frame.Params (n - 1) allowed d) b ≡ params_reported n allowed d b
unfolding frame_at
params_more n d allowed b h = ap (λ (m : ℕ). params_reported m allowed d b) (one_less n h)

-- ---- SENTINEL

abbrev Params : Type 0
Params = (List Slot × Option ℕ) × List ℕ

-- one more parameter, and the new index of SENTINEL
abbrev more_params : Slot → (Option ℕ → Option ℕ) → Option Params → Option Params
more_params x m o = option_map (λ y. ((x ∷ y.0.0, m y.0.1), y.1)) o

abbrev after_one : Option ℕ → Option ℕ
after_one s = option_map suc s

abbrev at_one : Option ℕ → Option ℕ
at_one s = Some 0

abbrev IsUnmarked : Params → Type 0
IsUnmarked x = x.0.1 ≡ None

abbrev pub HasParams : ℕ → Params → Type 0
HasParams n x = count_slots (slots_from x.0.0) ≡ n

module _ (nested : Reader Core) where
  abbrev plain_then : Bool → ℕ → Option (Slot × List ℕ) → Option Params
  plain_then allowed n o = option_and_then (λ x. more_params x.0 after_one (params_at nested allowed n x.1)) o

  abbrev marked_then : ℕ → Option (Slot × List ℕ) → Option Params
  marked_then n o = option_and_then (λ x. more_params x.0 at_one (params_at nested false n x.1)) o

  pub no_mark : (n : ℕ) (b : List ℕ) → IfSome (params_at nested false n b) IsUnmarked
  unfolding params_at
  no_mark zero b = refl
  no_mark (suc n) b = of_first (slot_at nested b) (λ c. no_mark n c)
    where
      of_tail : (x : Slot) (o : Option Params) → IfSome o IsUnmarked → IfSome (more_params x after_one o) IsUnmarked
      of_tail x None h = tt
      of_tail x (Some y) h = rw h refl

      of_first : (o : Option (Slot × List ℕ)) → ((c : List ℕ) → IfSome (params_at nested false n c) IsUnmarked) → IfSome (plain_then false n o) IsUnmarked
      of_first None more = tt
      of_first (Some x) more = of_tail x.0 (params_at nested false n x.1) (more x.1)

  counted_params : (x : Slot) (m : Option ℕ → Option ℕ) (n : ℕ) (o : Option Params) → IfSome o (HasParams n) → IfSome (more_params x m o) (HasParams (suc n))
  counted_params x m n None h = tt
  counted_params x m n (Some y) h = ap suc h

  pub params_count : (allowed : Bool) (n : ℕ) (b : List ℕ) → IfSome (params_at nested allowed n b) (HasParams n)
  unfolding params_at
  params_count allowed zero b = refl
  params_count allowed (suc n) b = at_test (allowed && head_is 0x41 b) (λ p c. params_count p n c)
    where
      of_marked : (o : Option (Slot × List ℕ)) → ((p : Bool) (c : List ℕ) → IfSome (params_at nested p n c) (HasParams n)) → IfSome (marked_then n o) (HasParams (suc n))
      of_marked None more = tt
      of_marked (Some x) more = counted_params x.0 at_one n (params_at nested false n x.1) (more false x.1)

      of_plain : (o : Option (Slot × List ℕ)) → ((p : Bool) (c : List ℕ) → IfSome (params_at nested p n c) (HasParams n)) → IfSome (plain_then allowed n o) (HasParams (suc n))
      of_plain None more = tt
      of_plain (Some x) more = counted_params x.0 after_one n (params_at nested allowed n x.1) (more allowed x.1)

      at_test : (p : Bool) → ((p : Bool) (c : List ℕ) → IfSome (params_at nested p n c) (HasParams n)) → IfSome (cond p (marked_then n (slot_at nested (drop 1 b))) (plain_then allowed n (slot_at nested b))) (HasParams (suc n))
      at_test true more = of_marked (slot_at nested (drop 1 b)) more
      at_test false more = of_plain (slot_at nested b) more

  later : (x : Slot) (xs : List Slot) (s : Option ℕ) → slots_items (slots_from (x ∷ xs)) (after_one s) ≡ slot_items x ++ slots_items (slots_from xs) s
  later x xs None = refl
  later x xs (Some k) = refl

  abbrev reported_params : Bool → ℕ → Reporter
  reported_params allowed n = change params_items (params_at nested allowed n)

  abbrev items_of_params : Option Params → Reported
  items_of_params o = changed params_items o

  abbrev marked_items : Slot → List Item
  marked_items s = item.Sentinel ∷ slot_items s

  plain_first : (allowed : Bool) (n : ℕ) (o : Option (Slot × List ℕ)) → and_report (reported_params allowed n) (changed slot_items o) ≡ items_of_params (plain_then allowed n o)
  plain_first allowed n None = refl
  plain_first allowed n (Some x) = of_tail (params_at nested allowed n x.1)
    where
      of_tail : (o : Option Params) → before_reported (slot_items x.0) (items_of_params o) ≡ items_of_params (more_params x.0 after_one o)
      of_tail None = refl
      of_tail (Some y) = ap (λ (t : List Item). Some (t, y.1)) (sym (later x.0 y.0.0 y.0.1))

  marked_first : (n : ℕ) (o : Option (Slot × List ℕ)) → and_report (reported_params false n) (changed marked_items o) ≡ items_of_params (marked_then n o)
  marked_first n None = refl
  marked_first n (Some x) = of_tail (params_at nested false n x.1) (no_mark n x.1)
    where
      of_tail : (o : Option Params) → IfSome o IsUnmarked → before_reported (marked_items x.0) (items_of_params o) ≡ items_of_params (more_params x.0 at_one o)
      of_tail None h = refl
      of_tail (Some y) h = ap (λ (s : Option ℕ). Some ((item.Sentinel ∷ slot_items x.0) ++ slots_items (slots_from y.0.0) s, y.1)) h

pub params_first : (n d : ℕ) (allowed : Bool) (b : List ℕ) → (allowed && head_is 0x41 b) ≡ false → joined (position_at (position.Slot d)) (params_reported n allowed d) b ≡ frame_at (frame.Params n allowed d) b
unfolding position_at frame_at params_reported params_at joined
params_first n d allowed b h = rw h (plain_first (core_at d) allowed n (slot_at (core_at d) b))

no_head : (p : Bool) → (p && false) ≡ true → ⊥
no_head true e = absurd cc
no_head false e = absurd cc

both_hold : (p q : Bool) → (p && q) ≡ true → q ≡ true
both_hold true q e = e
both_hold false q e = absurd cc

pub params_marked : (n d : ℕ) (allowed : Bool) (b : List ℕ) → (allowed && head_is 0x41 b) ≡ true → joined (position_at (position.Marked d)) (params_reported n false d) b ≡ frame_at (frame.Params n allowed d) b
unfolding position_at frame_at params_reported params_at joined
params_marked n d allowed [] h = absurd (no_head allowed h)
params_marked n d allowed (c ∷ b) h = let code = both_hold allowed (head_is 0x41 (c ∷ b)) h in rw (h, code) (marked_first (core_at d) n (slot_at (core_at d) b))

-- parameters without SENTINEL
abbrev unmarked : Option (List Slot × List ℕ) → Option Params
unmarked o = option_map (λ x. ((x.0, None), x.1)) o

plain_many : (nested : Reader Core) (n : ℕ) (b : List ℕ) → params_at nested false n b ≡ unmarked (many_at (slot_at nested) n b)
unfolding params_at many_at
plain_many nested zero b = refl
plain_many nested (suc n) b = of_first (slot_at nested b) (λ c. plain_many nested n c)
  where
    of_tail : (x : Slot) (o : Option (List Slot × List ℕ)) → more_params x after_one (unmarked o) ≡ unmarked (prefixed x o)
    of_tail x None = refl
    of_tail x (Some y) = refl

    of_first : (o : Option (Slot × List ℕ)) → ((c : List ℕ) → params_at nested false n c ≡ unmarked (many_at (slot_at nested) n c)) → plain_then nested false n o ≡ unmarked (option_and_then (λ (x : Slot × List ℕ). prefixed x.0 (many_at (slot_at nested) n x.1)) o)
    of_first None more = refl
    of_first (Some x) more = ap (more_params x.0 after_one) (more x.1) ∙ of_tail x.0 (many_at (slot_at nested) n x.1)

pub params_plain : (n d : ℕ) (b : List ℕ) → params_reported n false d b ≡ change (flat_map slot_items) (many_at (slot_at (core_at d)) n) b
unfolding params_reported
params_plain n d b = ap (λ (o : Option Params). changed params_items o) (plain_many (core_at d) n b) ∙ of_list (many_at (slot_at (core_at d)) n b)
  where
    of_list : (o : Option (List Slot × List ℕ)) → changed params_items (unmarked o) ≡ changed (flat_map slot_items) o
    of_list None = refl
    of_list (Some x) = ap (λ (t : List Item). Some (t, x.1)) (slots_from_items x.0)

-- ---- the first of several values, if the items of the others are known

pub types_opened : (f : Option Frame) (n d : ℕ) (b : List ℕ) → ((c : List ℕ) → next_at f None c ≡ types_reported n d c) → next_at f (Some (position.Typed d)) b ≡ frame_at (frame.Types n d) b
unfolding position_at frame_at types_reported
types_opened f n d b same = next_joined f (position.Typed d) (types_reported n d) b same ∙ many_joined typed_items (typed_at (core_at d)) n b

pub locals_opened : (f : Option Frame) (n d : ℕ) (b : List ℕ) → ((c : List ℕ) → next_at f None c ≡ locals_reported n d c) → next_at f (Some (position.Local d)) b ≡ frame_at (frame.Locals n d) b
unfolding position_at frame_at locals_reported
locals_opened f n d b same = next_joined f (position.Local d) (locals_reported n d) b same ∙ many_joined local_items (local_at (core_at d)) n b

pub params_opened : (f : Option Frame) (n d : ℕ) (allowed : Bool) (b : List ℕ) → (allowed && head_is 0x41 b) ≡ false → ((c : List ℕ) → next_at f None c ≡ params_reported n allowed d c) → next_at f (Some (position.Slot d)) b ≡ frame_at (frame.Params n allowed d) b
params_opened f n d allowed b h same = next_joined f (position.Slot d) (params_reported n allowed d) b same ∙ params_first n d allowed b h

pub marked_opened : (f : Option Frame) (n d : ℕ) (allowed : Bool) (b : List ℕ) → (allowed && head_is 0x41 b) ≡ true → ((c : List ℕ) → next_at f None c ≡ params_reported n false d c) → next_at f (Some (position.Marked d)) b ≡ frame_at (frame.Params n allowed d) b
marked_opened f n d allowed b h same = next_joined f (position.Marked d) (params_reported n false d) b same ∙ params_marked n d allowed b h

pub shape_opened : (b : List ℕ) → position_at position.Shape b ≡ frame_at frame.Shape b
unfolding position_at frame_at
shape_opened b = refl
