-- One item after another.
use Rattle.sig_encoder.proofs.Prelude.{◌≡◌, ◌∙◌, Bool, true, false, Option, None, refl, ap, sym, Result, Ok, Err, List, [], ◌∷◌, ◌++◌, Part, after, then, run, Item, part, broken, parts_items, rule}

module _ {A P : Type 0} (step : P → A → Result A A) where
  pub run_none : (s : A) → run step [] s ≡ Ok s
  unfolding run
  run_none s = refl

  alone : (o : Result A A) → then (run step []) o ≡ o
  unfolding run
  alone (Ok s) = refl
  alone (Err e) = refl

  pub run_last : (p : P) (s : A) → run step (p ∷ []) s ≡ step p s
  unfolding run
  run_last p s = alone (step p s)

  pub run_one : (p : P) (ps : List P) (s : A) → run step (p ∷ ps) s ≡ then (run step ps) (step p s)
  unfolding run
  run_one p ps s = refl

  behind : (ps qs : List P) → ((s : A) → run step (ps ++ qs) s ≡ then (run step qs) (run step ps s)) → (o : Result A A) → then (run step (ps ++ qs)) o ≡ then (run step qs) (then (run step ps) o)
  behind ps qs h (Err e) = refl
  behind ps qs h (Ok x) = h x

  pub run_both : (ps qs : List P) (s : A) → run step (ps ++ qs) s ≡ then (run step qs) (run step ps s)
  unfolding run
  run_both [] qs s = refl
  run_both (p ∷ ps) qs s = behind ps qs (λ x. run_both ps qs x) (step p s)

  -- ---- after the first item: the sink continues, or it stops

  pub on_both : (ps qs : List P) (s new : A) (all : Result A A) → Ok new ≡ run step ps s → run step (ps ++ qs) s ≡ all → run step qs new ≡ all
  on_both ps qs s new all e so = ap (then (run step qs)) e ∙ sym (run_both ps qs s) ∙ so

  pub on_one : (p : P) (qs : List P) (s new : A) (all : Result A A) → Ok new ≡ step p s → run step (p ∷ qs) s ≡ all → run step qs new ≡ all
  on_one p qs s new all e so = ap (then (run step qs)) e ∙ sym (run_one p qs s) ∙ so

  module _ {U : Type 0} (r : Option U) where
    pub off_both : (ps qs : List P) (s new : A) (all : Result A A) → r ≡ None → Err new ≡ run step ps s → run step (ps ++ qs) s ≡ all → after r new ≡ all
    off_both ps qs s new all none e so = rw none (ap (then (run step qs)) e ∙ sym (run_both ps qs s) ∙ so)

    pub off_one : (p : P) (qs : List P) (s new : A) (all : Result A A) → r ≡ None → Err new ≡ step p s → run step (p ∷ qs) s ≡ all → after r new ≡ all
    off_one p qs s new all none e so = rw none (ap (then (run step qs)) e ∙ sym (run_one p qs s) ∙ so)

module _ {A : Type 0} (step : Item → A → Result A A) where
  -- nothing is reported if the condition holds
  pub as_it_must : (holds : Bool) (s : A) → holds ≡ true → Ok s ≡ run step (rule holds) s
  unfolding run rule
  as_it_must true s e = refl
  as_it_must false s e = absurd cc

  pub not_as_it_must : (holds : Bool) (s : A) → holds ≡ false → step broken s ≡ run step (rule holds) s
  unfolding rule
  not_as_it_must true s e = absurd cc
  not_as_it_must false s e = sym (run_last step broken s)

pub items_both : (ps qs : List Part) → parts_items (ps ++ qs) ≡ parts_items ps ++ parts_items qs
items_both [] qs = refl
items_both (p ∷ ps) qs = ap (λ xs. part p ∷ xs) (items_both ps qs)

pub ruleset steps = (run_none, run_last, run_one, run_both)
