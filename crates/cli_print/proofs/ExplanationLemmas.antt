-- How the lines of rules follow one another.
use Rattle.cli_print.proofs.Prelude.{◌≡◌, ◌≤◌, ◌<◌, ◌+◌, ◌∷◌, ◌++◌, ◌∙◌, ◌&&◌, [], ℕ, Bool, List, true, drop, get_or, length, refl, subst, sym, list_all, drop_all, drop_more, Part, Adds, Begins, Ends, Printed, Prints, AreEach, BeginsWords, PrintsEach, PrintsWords, is_word}
use Rattle.std.proofs.lemmas.List.Folds.{list_all-append}
use Rattle.packed.specs.declared.code.FaultCode.{FaultCode}

all_both : {X : Type 0} (p : X → Bool) (xs ys : List X) → list_all p xs ≡ true → list_all p ys ≡ true → list_all p (xs ++ ys) ≡ true
all_both p xs ys first next = list_all-append p xs ys ∙ (λ i. first i && next i)

-- the law of lines
abbrev pub Follow : Type 0 → Type 0
Follow W = (old between new : Printed W) (first second : List (List Part)) → Prints old between first → Prints between new second → Prints old new (first ++ second)

module _ {W : Type 0} (more : Follow W) where
  pub words_more : (old between new : Printed W) → PrintsWords old between → PrintsWords between new → PrintsWords old new
  words_more old between new first next =
      (first.0 ++ next.0, all_both (list_all is_word) first.0 next.0 first.1 next.1, more old between new first.0 next.0 first.2 next.2)

  -- the lines of a rule, and those of the rules after it
  pub each_more : (IsOf : FaultCode → List (List Part) → Type 0) (rules : List FaultCode) (index : ℕ) (none : FaultCode) (old between new : Printed W) (first : List (List Part))
      → index < length rules → IsOf (get_or rules index none) first → Prints old between first → PrintsEach IsOf (drop (index + 1) rules) between new
      → PrintsEach IsOf (drop index rules) old new
  unfolding AreEach
  each_more IsOf rules index none old between new first within is printed later =
      subst (λ (left : List FaultCode). PrintsEach IsOf left old new) (sym (drop_more rules index none within))
      (first ++ later.0, (first, later.0, is, later.1, refl), more old between new first later.0 printed later.2)

-- no rule is left
pub each_none : {W : Type 0} (IsOf : FaultCode → List (List Part) → Type 0) (rules : List FaultCode) (index : ℕ) (printer : Printed W)
    → length rules ≤ index → Prints printer printer [] → PrintsEach IsOf (drop index rules) printer printer
unfolding AreEach
each_none IsOf rules index printer past nothing =
    subst (λ (left : List FaultCode). PrintsEach IsOf left printer printer) (sym (drop_all index rules past)) ([], refl, nothing)

module _ {W : Type 0} (begun : (old between new : Printed W) (first second : List Part) → Begins old between first → Adds between new second → Begins old new (first ++ second)) where
  pub begins_more : (before old new : Printed W) (parts : List Part) → BeginsWords before old → list_all is_word parts ≡ true → Adds old new parts → BeginsWords before new
  begins_more before old new parts first words added =
      (first.0, first.1 ++ parts, first.2, all_both is_word first.1 parts first.3 words, begun first.0 old new first.1 parts first.4 added)

module _ {W : Type 0} (more : Follow W) (nothing : (printer : Printed W) → Adds printer printer [])
    (line : (old begun added new : Printed W) (first second : List Part) → Begins old begun first → Adds begun added second → Ends added new → Prints old new ((first ++ second) ∷ [])) where
  pub words_ended : (before old new : Printed W) → BeginsWords before old → Ends old new → PrintsWords before new
  words_ended before old new first ended =
      words_more more before first.0 new first.2
      ((first.1 ++ []) ∷ [], (λ i. all_both is_word first.1 [] first.3 refl i && true), line first.0 old old new first.1 [] first.4 (nothing old) ended)
