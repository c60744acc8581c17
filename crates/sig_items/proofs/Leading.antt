-- Modifiers at the start, and modifiers with PINNED, one by one, before a value.
use Rattle.std.proofs.Common.{◌≡◌, false, Bool, Option, Some, None, List, [], ◌∷◌, ◌++◌, ℕ, map, refl}
use Rattle.sig_items.proofs.Prelude.{option_map, option_and_then, Reader, Optional, change, both, leading_at, Stepping, leading_is, Item, Reporter, item_then}

-- the items before a value, and the value
abbrev pub led_at : {M A : Type 0} → Optional M → (M → Item) → (A → List Item) → Reader A → Reporter
led_at r one items q = change (λ x. map one x.0 ++ items x.1) (both (leading_at r) q)

module _ {M : Type 0} (r : Optional M) (starts : List ℕ → Bool) (steps : Stepping r starts) where
  module _ {A : Type 0} (one : M → Item) (items : A → List Item) (q : Reader A) where
    abbrev led : Option ((List M × A) × List ℕ) → Option (List Item × List ℕ)
    led o = option_map (λ x. (map one x.0.0 ++ items x.0.1, x.1)) o

    abbrev led_by : Option (List M × List ℕ) → Option (List Item × List ℕ)
    led_by o = led (option_and_then (λ x. option_map (λ y. ((x.0, y.0), y.1)) (q x.1)) o)

    more_led : (m : M) (o : Option (List M × List ℕ)) → led_by (option_map (λ y. (m ∷ y.0, y.1)) o) ≡ item_then (one m) (led_by o)
    more_led m None = refl
    more_led m (Some x) = of_value (q x.1)
      where
        of_value : (o : Option (A × List ℕ)) → led (option_map (λ y. ((m ∷ x.0, y.0), y.1)) o) ≡ item_then (one m) (led (option_map (λ y. ((x.0, y.0), y.1)) o))
        of_value None = refl
        of_value (Some y) = refl

    pub led_next : (b tail : List ℕ) (m : M) → r b ≡ Some (Some m, tail) → led_at r one items q b ≡ item_then (one m) (led_at r one items q tail)
    unfolding both
    led_next b tail m e = let n = leading_is r starts steps b in rw (n, e) (more_led m (leading_at r tail))

    pub led_none : (b : List ℕ) → r b ≡ None → led_at r one items q b ≡ None
    unfolding both
    led_none b e = let n = leading_is r starts steps b in rw (n, e) refl

    pub led_end : (b : List ℕ) → starts b ≡ false → led_at r one items q b ≡ change items q b
    unfolding both
    led_end b h = let n = leading_is r starts steps b in let s = steps.stop b h in rw (n, s) (of_value (q b))
      where
        of_value : (o : Option (A × List ℕ)) → led (option_map (λ y. (([], y.0), y.1)) o) ≡ option_map (λ x. (items x.0, x.1)) o
        of_value None = refl
        of_value (Some y) = refl
