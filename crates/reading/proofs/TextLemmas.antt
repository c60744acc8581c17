-- Strings before the first NUL.
use Rattle.std.proofs.Common.{◌≡◌, ◌≢◌, ℕ, Bool, true, false, not, ◌==◌, IsTrue, ◌↔◌, List, [], ◌∷◌, ◌++◌, Some, None, slice_get, refl, sym, ◌∙◌, ap, arith, inl, inr}
use Rattle.std.specs.List.{list_any, AllByRecursion}
use Rattle.reading.proofs.Prelude.{cases_eq, eq-eqb, nat_tests, HasNoNul}
use Rattle.std.proofs.lemmas.List.Elements.{recursion_from_All}

abbrev pub NoNul : List ℕ → Type 0
NoNul bytes = AllByRecursion (λ byte. byte ≢ 0) bytes

-- two strings before the first NUL of the same bytes are equal
one_text : (a b c d : List ℕ) → a ++ 0 ∷ c ≡ b ++ 0 ∷ d → NoNul a → NoNul b → a ≡ b
one_text [] [] c d e plain other = refl
one_text [] (y ∷ b) c d e plain other = let head : y ≡ 0 = cc in absurd (other.0 head)
one_text (x ∷ a) [] c d e plain other = let head : x ≡ 0 = cc in absurd (plain.0 head)
one_text (x ∷ a) (y ∷ b) c d e plain other =
    let head : x ≡ y = cc in
    let tail : a ++ 0 ∷ c ≡ b ++ 0 ∷ d = cc in
    rw head (ap (λ l. y ∷ l) (one_text a b c d tail plain.1 other.1))

same_tail : (a b c : List ℕ) → a ++ b ≡ a ++ c → b ≡ c
same_tail [] b c e = e
same_tail (x ∷ a) b c e = let tail : a ++ b ≡ a ++ c = cc in same_tail a b c tail

none_nul : (bytes : List ℕ) → list_any (λ byte. byte == 0) bytes ≡ false → NoNul bytes
none_nul [] e = tt
none_nul (x ∷ bytes) e =
    elim (cases_eq x 0) [
      | inl zero ↦ absurd (let test : (x == 0) ≡ true = eq-eqb x 0 zero in let f : true ≡ false = rw test at e in cc)
      | inr other ↦ (other, none_nul bytes (let test : (x == 0) ≡ false = grind (arith, nat_tests) in rw test at e))
    ]

nul_none : (bytes : List ℕ) → NoNul bytes → list_any (λ byte. byte == 0) bytes ≡ false
nul_none [] plain = refl
nul_none (x ∷ bytes) plain =
    let head : x ≢ 0 = plain.0 in
    let test : (x == 0) ≡ false = grind (arith, nat_tests) in
    rw test (nul_none bytes plain.1)

-- the first byte
pub first_is : (tail : List ℕ) (end : ℕ) → Some end ≡ slice_get tail 0 → (more : List ℕ) × (tail ≡ end ∷ more)
first_is [] end e = absurd cc
first_is (x ∷ tail) end e = (tail, let same : end ≡ x = cc in ap (λ y. y ∷ tail) (sym same))

pub first_none : (tail : List ℕ) → slice_get tail 0 ≡ None → tail ≡ []
first_none [] e = refl
first_none (x ∷ tail) e = absurd cc

not_true : (b : Bool) → IsTrue (not b) → b ≡ false
not_true true t = absurd cc
not_true false t = refl

module _ (bytes text after sought : List ℕ) (whole : bytes ≡ text ++ 0 ∷ after) (plain : HasNoNul text) where
  -- if the bytes do not start with the sought string, the string is another one
  pub no_prefix : ((tail : List ℕ) → bytes ≢ sought ++ tail) → text ≢ sought
  no_prefix none same = none (0 ∷ after) (whole ∙ ap (λ l. l ++ 0 ∷ after) same)

  module _ (tail : List ℕ) (found : bytes ≡ sought ++ tail) where
    tail_is : text ≡ sought → tail ≡ 0 ∷ after
    tail_is same = same_tail sought tail (0 ∷ after) (sym found ∙ whole ∙ ap (λ l. l ++ 0 ∷ after) same)

    pub no_end : tail ≡ [] → text ≢ sought
    no_end empty same = let e = tail_is same in absurd cc

    pub other_end : (end : ℕ) (more : List ℕ) → tail ≡ end ∷ more → end ≢ 0 → text ≢ sought
    other_end end more is other same = let e = tail_is same in let head : end ≡ 0 = cc in other head

    pub ends : (more : List ℕ) (has : Bool) → tail ≡ 0 ∷ more → has ≡ list_any (λ byte. byte == 0) sought → IsTrue (not has) ↔ (text ≡ sought)
    ends more has is tested = (
      (λ t. one_text text sought after more (sym whole ∙ found ∙ ap (λ l. sought ++ l) is) (recursion_from_All _ text plain)
          (none_nul sought (sym tested ∙ not_true has t))),
      (λ same. rw (tested ∙ nul_none sought (recursion_from_All (λ byte. byte ≢ 0) sought (rw same at plain))) refl),
    )
