-- The parts of the full name of a type.
use Rattle.cli_names.proofs.Prelude.{◌≡◌, ◌≢◌, ◌==◌, ◌∙◌, ◌++◌, ◌∷◌, ℕ, List, [], All, Option, None, Some, ap, sym, subst, drop, inl, inr, lit<, MatchOption, unwrap_or, NoCharPasses, get_or_default, take-append-drop, IsFullName, Bor}
use Rattle.std.specs.Str.Pattern.{RFindsChar, SplitsAroundMatch}
use Rattle.std.proofs.lemmas.Str.Pattern.{NoCharPasses-char, drop_at_char}

-- no byte of a text is a dot if no character is
no_dot : (text : List ℕ) → NoCharPasses (λ d. d == 46) text → All (λ byte. byte ≢ 46) text
no_dot text none = λ i d below is. NoCharPasses-char 46 text i none (lit< tt) below (get_or_default text i 0 d below ∙ is)

-- the parts round the last dot are a namespace and a name; without a dot there is only a name
pub full_name : (word : List ℕ) (found : Option (Bor (List ℕ) × Bor (List ℕ))) (whole parts : Bor (List ℕ) × Bor (List ℕ))
    → MatchOption found (RFindsChar 46 word None) (λ x. SplitsAroundMatch (RFindsChar 46) word x.0.now x.1.now)
    → whole.0.now ≡ [] → whole.1.now ≡ word → parts ≡ unwrap_or found whole → IsFullName word parts.0.now parts.1.now
full_name word None whole parts none empty all is =
    rw is (subst (λ (n : List ℕ). All (λ byte. byte ≢ 46) n) (sym all) (no_dot word none), inr (empty, sym all))
full_name word (Some x) whole parts found empty all is =
    rw is (
      subst (λ (n : List ℕ). All (λ byte. byte ≢ 46) n) (sym found.4) (no_dot (drop found.1 word) found.2.0),
      inl (sym (take-append-drop found.0 word) ∙ (λ k. sym found.3 k ++ (drop_at_char 46 word found.0 found.1 found.2.1 (lit< tt) ∙ ap (λ l. 46 ∷ l) (sym found.4)) k)),
    )
