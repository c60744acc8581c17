-- Items at the start, one by one: modifiers, and modifiers with PINNED.
use Rattle.std.proofs.Common.{◌≡◌, ℕ, zero, suc, ◌<◌, ◌≤◌, ◌||◌, Bool, true, false, cond, eqb, ltb, Option, Some, None, List, [], ◌∷◌, length, drop, length-drop, refl, ap, arith, IfSome}
use Rattle.std.specs.Prelude.{⊤, option_map, option_and_then}
use Rattle.packed.specs.Prefix as head
use Rattle.table_schema.specs.declared.token.Token.{Token}
use Rattle.sig_grammar.specs.declared.types.Modifier.{Modifier}
use Rattle.sig_grammar.specs.declared.body.Prefix.TheVariants.{Pinned}
use Rattle.sig_grammar.specs.Reading.{Optional, number_at, token_of, index_at, items_then, leading_within, leading_at, modifier_at, modifier_after, prefix_of, prefix_at, starts_modifier, starts_prefix}
use Rattle.sig_grammar.proofs.OptionLemmas.{IfSome-bind, IfSome-map, IfSome-cond}

-- ---- the remainder is shorter

abbrev pub Shorter : {A : Type 0} → List ℕ → A × List ℕ → Type 0
Shorter b x = length x.1 < length b

abbrev TakesSome : List ℕ → ℕ × ℕ → Type 0
TakesSome b read = (1 ≤ read.1) × (1 ≤ length b)

two_some : (a : ℕ) (b : List ℕ) → IfSome (head.two_at a b) (TakesSome (a ∷ b))
two_some a [] = tt
two_some a (b ∷ tail) = (omega arith, omega arith)

four_some : (a : ℕ) (b : List ℕ) → IfSome (head.four_at a b) (TakesSome (a ∷ b))
four_some a [] = tt
four_some a (b ∷ []) = tt
four_some a (b ∷ c ∷ []) = tt
four_some a (b ∷ c ∷ d ∷ tail) = (omega arith, omega arith)

unsigned_some : (b : List ℕ) → IfSome (head.unsigned_at b) (TakesSome b)
unfolding head.unsigned_at
unsigned_some [] = tt
unsigned_some (a ∷ b) =
    IfSome-cond (TakesSome (a ∷ b)) (ltb a 0x80) _ _ (λ e. (omega arith, omega arith))
    (λ e. IfSome-cond (TakesSome (a ∷ b)) (ltb a 0xC0) _ _ (λ f. two_some a b)
    (λ f. IfSome-cond (TakesSome (a ∷ b)) (ltb a 0xE0) _ _ (λ g. four_some a b) (λ g. tt)))

number_shorter : (b : List ℕ) → IfSome (number_at b) (Shorter b)
unfolding number_at
number_shorter b =
    IfSome-map (TakesSome b) (Shorter b) (λ x. (x.0, drop x.1 b)) (head.unsigned_at b) (unsigned_some b)
    (λ x some. let one = some.0 in let two = some.1 in omega (arith, length-drop x.1 b))

index_shorter : (b : List ℕ) → IfSome (index_at b) (Shorter b)
unfolding index_at
index_shorter b =
    IfSome-bind (Shorter b) (Shorter b) (λ x. option_map (λ t. (t, x.1)) (token_of x.0)) (number_at b) (number_shorter b)
    (λ x h. IfSome-map (λ (t : Token). ⊤) (Shorter b) (λ t. (t, x.1)) (token_of x.0) (any (token_of x.0)) (λ t _. h))
  where
    any : (o : Option Token) → IfSome o (λ t. ⊤)
    any None = tt
    any (Some t) = tt

-- ---- lists of items

abbrev pub ShorterItem : {A : Type 0} → List ℕ → Option A × List ℕ → Type 0
ShorterItem b (None, c) = ⊤
ShorterItem b (Some x, c) = length c < length b

abbrev pub IsItem : {A : Type 0} → Option A × List ℕ → Type 0
IsItem (None, c) = ⊥
IsItem (Some x, c) = ⊤

-- if the test holds, what is read is an item; otherwise there is none; an item has at least one byte
pub record Stepping {A : Type 0} (r : Optional A) (starts : List ℕ → Bool) : Type 0 where
  pub shorter : (b : List ℕ) → IfSome (r b) (ShorterItem b)
  pub item : (b : List ℕ) → starts b ≡ true → IfSome (r b) IsItem
  pub stop : (b : List ℕ) → starts b ≡ false → r b ≡ Some (None, b)
  pub empty : starts [] ≡ false

module _ {A : Type 0} (r : Optional A) (starts : List ℕ → Bool) (steps : Stepping r starts) where
  within_more : (k m : ℕ) (b : List ℕ) → length b ≤ k → length b ≤ m → leading_within r k b ≡ leading_within r m b
  unfolding leading_within
  within_more zero zero b p q = refl
  within_more zero (suc m) [] p q = let e = steps.stop [] steps.empty in rw e refl
  within_more zero (suc m) (c ∷ b) p q = absurd (omega arith)
  within_more (suc k) zero [] p q = let e = steps.stop [] steps.empty in rw e refl
  within_more (suc k) zero (c ∷ b) p q = absurd (omega arith)
  within_more (suc k) (suc m) b p q = by_item k m b (r b) (steps.shorter b) (λ c lt. within_more k m c (omega arith) (omega arith))
    where
      by_item : (k m : ℕ) (b : List ℕ) (o : Option (Option A × List ℕ)) → IfSome o (ShorterItem b) → ((c : List ℕ) → length c < length b → leading_within r k c ≡ leading_within r m c) → option_and_then (items_then (leading_within r k)) o ≡ option_and_then (items_then (leading_within r m)) o
      by_item k m b None h same = refl
      by_item k m b (Some (None, c)) h same = refl
      by_item k m b (Some (Some x, c)) h same = ap (λ (t : Option (List A × List ℕ)). option_map (λ y. (x ∷ y.0, y.1)) t) (same c h)

  -- the list of items, from the first item
  pub leading_is : (b : List ℕ) → leading_at r b ≡ option_and_then (items_then (leading_at r)) (r b)
  unfolding leading_at leading_within
  leading_is [] = let e = steps.stop [] steps.empty in rw e refl
  leading_is (c ∷ b) = of_item (r (c ∷ b)) (steps.shorter (c ∷ b))
    where
      of_item : (o : Option (Option A × List ℕ)) → IfSome o (ShorterItem (c ∷ b)) → option_and_then (items_then (leading_within r (length b))) o ≡ option_and_then (items_then (λ t. leading_within r (length t) t)) o
      of_item None h = refl
      of_item (Some (None, t)) h = refl
      of_item (Some (Some x, t)) h = ap (λ (u : Option (List A × List ℕ)). option_map (λ y. (x ∷ y.0, y.1)) u) (within_more (length b) (length t) t (omega arith) (omega arith))

-- ---- modifiers

after_shorter : (required : Bool) (c : ℕ) (b : List ℕ) → IfSome (modifier_after required b) (ShorterItem (c ∷ b))
after_shorter required c b = IfSome-map (Shorter b) (ShorterItem (c ∷ b)) (λ x. (Some (record { required = required; of = x.0 }), x.1)) (index_at b) (index_shorter b) (λ x h. omega arith)

after_item : (required : Bool) (b : List ℕ) → IfSome (modifier_after required b) IsItem
after_item required b = IfSome-map (Shorter b) IsItem (λ x. (Some (record { required = required; of = x.0 }), x.1)) (index_at b) (index_shorter b) (λ x h. tt)

modifier_shorter : (b : List ℕ) → IfSome (modifier_at b) (ShorterItem b)
unfolding modifier_at
modifier_shorter [] = tt
modifier_shorter (c ∷ b) =
    IfSome-cond (ShorterItem (c ∷ b)) (eqb c 0x1F) _ _ (λ e. after_shorter true c b) (λ e. IfSome-cond (ShorterItem (c ∷ b)) (eqb c 0x20) _ _ (λ e. after_shorter false c b) (λ e. tt))

modifier_item : (b : List ℕ) → starts_modifier b ≡ true → IfSome (modifier_at b) IsItem
unfolding modifier_at
modifier_item [] h = absurd cc
modifier_item (c ∷ b) h = at_test (eqb c 0x1F) (eqb c 0x20) h
  where
    at_test : (p q : Bool) → (p || q) ≡ true → IfSome (cond p (modifier_after true b) (cond q (modifier_after false b) (Some (None, c ∷ b)))) IsItem
    at_test true q h = after_item true b
    at_test false true h = after_item false b
    at_test false false h = absurd cc

modifier_stop : (b : List ℕ) → starts_modifier b ≡ false → modifier_at b ≡ Some (None, b)
unfolding modifier_at
modifier_stop [] h = refl
modifier_stop (c ∷ b) h = at_test (eqb c 0x1F) (eqb c 0x20) h
  where
    at_test : (p q : Bool) → (p || q) ≡ false → cond p (modifier_after true b) (cond q (modifier_after false b) (Some (None, c ∷ b))) ≡ Some (None, c ∷ b)
    at_test true q h = absurd cc
    at_test false true h = absurd cc
    at_test false false h = refl

pub modifier_steps : Stepping modifier_at starts_modifier
modifier_steps = record { shorter = modifier_shorter; item = modifier_item; stop = modifier_stop; empty = refl }

-- ---- modifiers with PINNED

prefix_of_shorter : (b : List ℕ) (p : Option Modifier × List ℕ) → ShorterItem b p → ShorterItem b (prefix_of p)
prefix_of_shorter b (None, c) h = tt
prefix_of_shorter b (Some m, c) h = h

prefix_of_item : (p : Option Modifier × List ℕ) → IsItem p → IsItem (prefix_of p)
prefix_of_item (None, c) h = h
prefix_of_item (Some m, c) h = tt

prefix_shorter : (b : List ℕ) → IfSome (prefix_at b) (ShorterItem b)
unfolding prefix_at
prefix_shorter [] = tt
prefix_shorter (c ∷ b) =
    IfSome-cond (ShorterItem (c ∷ b)) (eqb c 0x45) _ _ (λ e. omega arith) (λ e. IfSome-map (ShorterItem (c ∷ b)) (ShorterItem (c ∷ b)) prefix_of (modifier_at (c ∷ b)) (modifier_shorter (c ∷ b)) (prefix_of_shorter (c ∷ b)))

prefix_item : (b : List ℕ) → starts_prefix b ≡ true → IfSome (prefix_at b) IsItem
unfolding prefix_at
prefix_item [] h = absurd cc
prefix_item (c ∷ b) h = at_test (eqb c 0x45) h
  where
    at_test : (p : Bool) → (p || starts_modifier (c ∷ b)) ≡ true → IfSome (cond p (Some (Some Pinned, b)) (option_map prefix_of (modifier_at (c ∷ b)))) IsItem
    at_test true h = tt
    at_test false h = IfSome-map IsItem IsItem prefix_of (modifier_at (c ∷ b)) (modifier_item (c ∷ b) h) prefix_of_item

prefix_stop : (b : List ℕ) → starts_prefix b ≡ false → prefix_at b ≡ Some (None, b)
unfolding prefix_at
prefix_stop [] h = refl
prefix_stop (c ∷ b) h = at_test (eqb c 0x45) h
  where
    at_test : (p : Bool) → (p || starts_modifier (c ∷ b)) ≡ false → cond p (Some (Some Pinned, b)) (option_map prefix_of (modifier_at (c ∷ b))) ≡ Some (None, c ∷ b)
    at_test true h = absurd cc
    at_test false h = let e = modifier_stop (c ∷ b) h in rw e refl

pub prefix_steps : Stepping prefix_at starts_prefix
prefix_steps = record { shorter = prefix_shorter; item = prefix_item; stop = prefix_stop; empty = refl }
