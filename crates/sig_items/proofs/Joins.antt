-- Readers that return items, one after another.
use Rattle.sig_items.proofs.Prelude.{◌≡◌, ℕ, Option, Some, None, List, ◌∷◌, ◌++◌, refl, ap, append_assoc, option_map, option_and_then, Reader, change, both, Item, Reported, Reporter, before_reported, and_report, joined, item_then}

-- the same reading, with a function applied to its value
abbrev pub changed : {A B : Type 0} → (A → B) → Option (A × List ℕ) → Option (B × List ℕ)
changed f o = option_map (λ x. (f x.0, x.1)) o

-- a value that was read, with one before it
abbrev pub paired : {A B : Type 0} → A → Option (B × List ℕ) → Option ((A × B) × List ℕ)
paired x o = option_map (λ y. ((x, y.0), y.1)) o

-- the items of a value that is made from another
pub fused : {A B C : Type 0} (f : A → B) (g : B → C) (h : A → C) → ((x : A) → g (f x) ≡ h x) → (o : Option (A × List ℕ)) → changed g (changed f o) ≡ changed h o
fused f g h e None = refl
fused {C = C} f g h e (Some x) = ap (λ (t : C). Some (t, x.1)) (e x.0)

-- an item before the items that are read
pub item_fused : {A B : Type 0} (i : Item) (f : A → List Item) (k : A → B) (g : B → List Item) → ((x : A) → (i ∷ f x) ≡ g (k x)) → (o : Option (A × List ℕ)) → item_then i (changed f o) ≡ changed g (changed k o)
item_fused i f k g e None = refl
item_fused i f k g e (Some x) = ap (λ (t : List Item). Some (t, x.1)) (e x.0)

pub item_reported : {A : Type 0} (i : Item) (f g : A → List Item) → ((x : A) → (i ∷ f x) ≡ g x) → (o : Option (A × List ℕ)) → item_then i (changed f o) ≡ changed g o
item_reported i f g e None = refl
item_reported i f g e (Some x) = ap (λ (t : List Item). Some (t, x.1)) (e x.0)

-- one value after another
abbrev pub both_items : {A B : Type 0} → (A → List Item) → (B → List Item) → A × B → List Item
both_items f g x = f x.0 ++ g x.1

pub joined_both : {A B : Type 0} (f : A → List Item) (g : B → List Item) (r : Reader A) (q : Reader B) (b : List ℕ) → joined (change f r) (change g q) b ≡ change (both_items f g) (both r q) b
unfolding joined both
joined_both {A = A} {B = B} f g r q b = of_first (r b)
  where
    of_second : (x : A) (o : Option (B × List ℕ)) → before_reported (f x) (changed g o) ≡ changed (both_items f g) (paired x o)
    of_second x None = refl
    of_second x (Some y) = refl

    of_first : (o : Option (A × List ℕ)) → option_and_then (λ (x : List Item × List ℕ). before_reported x.0 (change g q x.1)) (changed f o) ≡ changed (both_items f g) (option_and_then (λ (x : A × List ℕ). paired x.0 (q x.1)) o)
    of_first None = refl
    of_first (Some x) = of_second x.0 (q x.1)

head_twice : (x y : List Item) (o : Reported) → before_reported (x ++ y) o ≡ before_reported x (before_reported y o)
head_twice x y None = refl
head_twice x y (Some z) = ap (λ (t : List Item). Some (t, z.1)) (append_assoc x y z.0)

and_twice : (q r : Reporter) (x : List Item) (o : Reported) → and_report r (before_reported x o) ≡ before_reported x (and_report r o)
and_twice q r x None = refl
and_twice q r x (Some y) = head_twice x y.0 (r y.1)

pub joined_assoc : (p q r : Reporter) (b : List ℕ) → joined (joined p q) r b ≡ joined p (joined q r) b
unfolding joined
joined_assoc p q r b = of_first (p b)
  where
    of_first : (o : Reported) → and_report r (and_report q o) ≡ and_report (λ c. and_report r (q c)) o
    of_first None = refl
    of_first (Some x) = and_twice q r x.0 (q x.1)

-- an item stays at the start
pub item_and : (i : Item) (q : Reporter) (o : Reported) → and_report q (item_then i o) ≡ item_then i (and_report q o)
item_and i q None = refl
item_and i q (Some x) = of_tail (q x.1)
  where
    of_tail : (o : Reported) → before_reported (i ∷ x.0) o ≡ item_then i (before_reported x.0 o)
    of_tail None = refl
    of_tail (Some y) = refl
