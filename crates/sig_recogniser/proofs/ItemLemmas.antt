-- One modifier at the start, and one modifier or PINNED.
use Rattle.std.proofs.Common.{◌≡◌, ◌≢◌, ℕ, Bool, true, false, cond, eqb, ◌||◌, Some, None, List, ◌∷◌, refl, subst, ◌<◌, Option, [], length, ap, ◌∙◌, IfSome}
use Rattle.sig_recogniser.proofs.Prelude.{option_map, if◌then◌else◌, option_and_then, Token, Modifier, index_at, modifier_at, modifier_after, starts_modifier, prefix_of, prefix_at, starts_prefix, Optional, leading_at, modifiers_at, prefixes_at, Part, list_parts, modifier_parts, prefix_parts, Left, Skip, noted, passed, skip_index, skip_modifiers, skip_prefixes}
use Rattle.std.proofs.lemmas.Bool.{ne_eqb, eqb-true, eqb-false}
use Rattle.sig_grammar.specs.declared.body.Prefix.TheVariants.{Mod, Pinned}
use Rattle.sig_grammar.proofs.Items.{Stepping, ShorterItem, leading_is, modifier_steps, prefix_steps}
use Rattle.sig_recogniser.proofs.Noted.{index_parts, noted-none, noted_parts, noted_parts-append}

modifier_is : (c : ℕ) (b tail : List ℕ) → starts_modifier b ≡ true → b ≡ c ∷ tail → modifier_at b ≡ modifier_after (eqb c 0x1F) tail
unfolding modifier_at
modifier_is c b tail starts h = let s = subst (λ (t : List ℕ). starts_modifier t ≡ true) h starts in rw h (at_test (eqb c 0x1F) (eqb c 0x20) s)
  where
    at_test : (p q : Bool) → (p || q) ≡ true → cond p (modifier_after true tail) (cond q (modifier_after false tail) (Some (None, c ∷ tail))) ≡ modifier_after p tail
    at_test true q h = refl
    at_test false true h = refl
    at_test false false h = absurd cc

pub modifier_found : (c : ℕ) (b tail next : List ℕ) (of : Token) → starts_modifier b ≡ true → b ≡ c ∷ tail → index_at tail ≡ Some (of, next) → modifier_at b ≡ Some (Some (record { required = eqb c 0x1F; of = of }), next)
modifier_found c b tail next of starts h e = let m = modifier_is c b tail starts h in rw (m, e) refl

pub modifier_none : (c : ℕ) (b tail : List ℕ) → starts_modifier b ≡ true → b ≡ c ∷ tail → index_at tail ≡ None → modifier_at b ≡ None
modifier_none c b tail starts h e = let m = modifier_is c b tail starts h in rw (m, e) refl

-- ---- with PINNED

pub pinned_found : (c : ℕ) (b tail : List ℕ) → b ≡ c ∷ tail → c ≡ 0x45 → prefix_at b ≡ Some (Some Pinned, tail)
unfolding prefix_at
pinned_found c b tail h e = rw (h, e) refl

pub prefix_starts : (c : ℕ) (b tail : List ℕ) → b ≡ c ∷ tail → c ≢ 0x45 → starts_prefix b ≡ true → starts_modifier b ≡ true
prefix_starts c b tail h e s =
    let other = ne_eqb c 0x45 e in
    let starts = subst (λ (t : List ℕ). starts_prefix t ≡ true) h s in
    rw h (subst (λ (p : Bool). (p || (eqb c 0x1F || eqb c 0x20)) ≡ true) other starts)

prefix_is : (c : ℕ) (b tail : List ℕ) → b ≡ c ∷ tail → c ≢ 0x45 → prefix_at b ≡ option_map prefix_of (modifier_at b)
unfolding prefix_at
prefix_is c b tail h e = let other = ne_eqb c 0x45 e in rw (h, other) refl

pub prefix_found : (c : ℕ) (b tail next : List ℕ) (m : Modifier) → b ≡ c ∷ tail → c ≢ 0x45 → modifier_at b ≡ Some (Some m, next) → prefix_at b ≡ Some (Some (Mod m), next)
prefix_found c b tail next m h e f = let i = prefix_is c b tail h e in rw (i, f) refl

pub prefix_none : (c : ℕ) (b tail : List ℕ) → b ≡ c ∷ tail → c ≢ 0x45 → modifier_at b ≡ None → prefix_at b ≡ None
prefix_none c b tail h e f = let i = prefix_is c b tail h e in rw (i, f) refl

-- ---- items at the start, one by one, as the pass skips them: modifiers, and modifiers with PINNED

module _ {A : Type 0} (r : Optional A) (starts : List ℕ → Bool) (steps : Stepping r starts) where
  item_shorter : (b c : List ℕ) (x : A) → r b ≡ Some (Some x, c) → length c < length b
  item_shorter b c x e = subst (λ (o : Option (Option A × List ℕ)). IfSome o (ShorterItem b)) e (steps.shorter b)

  module _ (parts : A → List Part) (counts : List ℕ) where
    more_passed : (bad : Option Token) (x : A) (o : Option (List A × List ℕ)) → passed counts bad (list_parts parts) (option_map (λ y. (x ∷ y.0, y.1)) o) ≡ passed counts (noted_parts counts bad (parts x)) (list_parts parts) o
    more_passed bad x None = refl
    more_passed bad x (Some y) = ap (λ (t : Option Token). Some (y.1, t)) (noted_parts-append counts bad (parts x) (list_parts parts y.0))

    items_next : (b c : List ℕ) (bad : Option Token) (x : A) → r b ≡ Some (Some x, c) → passed counts bad (list_parts parts) (leading_at r b) ≡ passed counts (noted_parts counts bad (parts x)) (list_parts parts) (leading_at r c)
    items_next b c bad x e = let n = leading_is r starts steps b in rw (n, e) (more_passed bad x (leading_at r c))

    items_bad : (b : List ℕ) (bad : Option Token) → r b ≡ None → passed counts bad (list_parts parts) (leading_at r b) ≡ None
    items_bad b bad e = let n = leading_is r starts steps b in rw (n, e) refl

    items_end : (b : List ℕ) (bad : Option Token) → starts b ≡ false → passed counts bad (list_parts parts) (leading_at r b) ≡ Some (b, bad)
    items_end b bad h =
        let s = steps.stop b h in
        let head : leading_at r b ≡ Some ([], b) = leading_is r starts steps b ∙ rw s refl in
        ap (λ (o : Option (List A × List ℕ)). passed counts bad (list_parts parts) o) head ∙ ap (λ (t : Option Token). Some (b, t)) (noted-none counts bad)

-- ---- the loops over modifiers, and over modifiers with PINNED

pub modifiers_end : (counts b : List ℕ) (bad : Option Token) → starts_modifier b ≡ false → skip_modifiers counts (b, bad) ≡ Some (b, bad)
unfolding skip_modifiers modifiers_at
modifiers_end counts b bad h = items_end modifier_at starts_modifier modifier_steps modifier_parts counts b bad h

pub prefixes_end : (counts b : List ℕ) (bad : Option Token) → starts_prefix b ≡ false → skip_prefixes counts (b, bad) ≡ Some (b, bad)
unfolding skip_prefixes prefixes_at
prefixes_end counts b bad h = items_end prefix_at starts_prefix prefix_steps prefix_parts counts b bad h

-- ---- an item by its first byte, and what follows it

noted_one : (counts : List ℕ) (bad : Option Token) (required : Bool) (of : Token) → noted_parts counts bad (modifier_parts (record { required = required; of = of })) ≡ noted counts bad (of ∷ [])
noted_one counts bad true of = refl
noted_one counts bad false of = refl

-- an item was passed: the others follow, in fewer bytes
abbrev Stepped : Skip → List ℕ → Option Token → Option Left → Type 0
Stepped skip b bad o = (skip (b, bad) ≡ option_and_then skip o) × IfSome o (λ y. length y.0 < length b)

pub modifier_step : (counts b t : List ℕ) (c : ℕ) (bad now : Option Token) (o : Option Left) → starts_modifier b ≡ true → b ≡ c ∷ t → now ≡ bad → o ≡ skip_index counts (t, now) → Stepped (skip_modifiers counts) b bad o
unfolding skip_index skip_modifiers modifiers_at
modifier_step counts b t c bad now o starts h e f = rw (f, e) (of_index (index_at t) refl)
  where
    of_index : (x : Option (Token × List ℕ)) → index_at t ≡ x → Stepped (skip_modifiers counts) b bad (option_map {U = Left} (λ y. (y.1, noted counts bad (y.0 ∷ []))) x)
    of_index None g = unfold skip_modifiers modifiers_at in (items_bad modifier_at starts_modifier modifier_steps modifier_parts counts b bad (modifier_none c b t starts h g), tt)
    of_index (Some x) g =
        let found = modifier_found c b t x.1 x.0 starts h g in
        unfold skip_modifiers modifiers_at in (
          items_next modifier_at starts_modifier modifier_steps modifier_parts counts b x.1 bad _ found ∙ ap (λ (z : Option Token). skip_modifiers counts (x.1, z)) (noted_one counts bad (eqb c 0x1F) x.0),
          item_shorter modifier_at starts_modifier modifier_steps b x.1 _ found,
        )

-- PINNED or a modifier by its first byte, and what follows it
abbrev pub prefix_tail : List ℕ → ℕ → Left → Option Left
prefix_tail counts c here = if eqb c 0x45 then Some here else skip_index counts here

other_none : (c : ℕ) (b t : List ℕ) → b ≡ c ∷ t → c ≢ 0x45 → starts_prefix b ≡ true → index_at t ≡ None → prefix_at b ≡ None
other_none c b t h other starts e = prefix_none c b t h other (modifier_none c b t (prefix_starts c b t h other starts) h e)

other_found : (c : ℕ) (b t u : List ℕ) (of : Token) → b ≡ c ∷ t → c ≢ 0x45 → starts_prefix b ≡ true → index_at t ≡ Some (of, u) → prefix_at b ≡ Some (Some (Mod (record { required = eqb c 0x1F; of = of })), u)
other_found c b t u of h other starts e = prefix_found c b t u _ h other (modifier_found c b t u of (prefix_starts c b t h other starts) h e)

pub prefix_step : (counts b t : List ℕ) (c : ℕ) (bad now : Option Token) (o : Option Left) → starts_prefix b ≡ true → b ≡ c ∷ t → now ≡ bad → o ≡ prefix_tail counts c (t, now) → Stepped (skip_prefixes counts) b bad o
unfolding skip_index skip_prefixes prefixes_at
prefix_step counts b t c bad now o starts h e f = rw (f, e) (of_code (eqb c 0x45) refl (index_at t) refl)
  where
    of_code : (p : Bool) → eqb c 0x45 ≡ p → (x : Option (Token × List ℕ)) → index_at t ≡ x → Stepped (skip_prefixes counts) b bad (cond {A = Option Left} p (Some (t, bad)) (option_map {U = Left} (λ y. (y.1, noted counts bad (y.0 ∷ []))) x))
    of_code true pinned x g =
        let found = pinned_found c b t h (eqb-true c 0x45 pinned) in
        unfold skip_prefixes prefixes_at in (
          items_next prefix_at starts_prefix prefix_steps prefix_parts counts b t bad Pinned found ∙ ap (λ (z : Option Token). skip_prefixes counts (t, z)) (noted-none counts bad),
          item_shorter prefix_at starts_prefix prefix_steps b t Pinned found,
        )
    of_code false other None g = unfold skip_prefixes prefixes_at in (items_bad prefix_at starts_prefix prefix_steps prefix_parts counts b bad (other_none c b t h (eqb-false c 0x45 other) starts g), tt)
    of_code false other (Some x) g =
        let found = other_found c b t x.1 x.0 h (eqb-false c 0x45 other) starts g in
        unfold skip_prefixes prefixes_at in (
          items_next prefix_at starts_prefix prefix_steps prefix_parts counts b x.1 bad _ found ∙ ap (λ (z : Option Token). skip_prefixes counts (x.1, z)) (noted_one counts bad (eqb c 0x1F) x.0),
          item_shorter prefix_at starts_prefix prefix_steps b x.1 _ found,
        )

-- ---- one index

-- the token of an index is checked
pub index_passes : (counts b : List ℕ) (bad : Option Token) → skip_index counts (b, bad) ≡ passed counts bad index_parts (index_at b)
unfolding skip_index
index_passes counts b bad = refl
