-- What arguments name, one after another.
use Rattle.cli.proofs.Prelude.{◌≡◌, ◌+◌, ◌<◌, ℕ, List, [], ◌∷◌, ◌++◌, All, get_or, length, take, drop, suc, refl, ap, sym, subst, Bor, split_at, take_more, All-cons, All-nil, NameEach}
use Rattle.cli.specs.Tasks.{IsFirstUnknown}

module _ {X : Type 0} (Names : List ℕ → X → Type 0) where
  -- one more argument names one
  more_named : (words : List (Bor (List ℕ))) (word : Bor (List ℕ)) (named : List X) (one : X) → NameEach Names words named → Names word.now one
      → NameEach Names (words ++ word ∷ []) (named ++ one ∷ [])
  more_named [] word named one are names = (one, [], names, refl, ap (λ (xs : List X). xs ++ one ∷ []) are)
  more_named (first ∷ words) word named one are names =
      (are.0, are.1 ++ one ∷ [], are.2, more_named words word are.1 one are.3 names, ap (λ (xs : List X). xs ++ one ∷ []) are.4)

  pub next_named : (words : List (Bor (List ℕ))) (k : ℕ) (d : Bor (List ℕ)) (named more : List X) (one : X) → k < length words → NameEach Names (take k words) named
      → Names (get_or words k d).now one → more ≡ named ++ one ∷ [] → NameEach Names (take (k + 1) words) more
  next_named words k d named more one lt are names pushed =
      subst (λ (xs : List X). NameEach Names (take (k + 1) words) xs) (sym pushed)
      (subst (λ (ws : List (Bor (List ℕ))). NameEach Names ws (named ++ one ∷ [])) (sym (take_more words k d lt)) (more_named (take k words) (get_or words k d) named one are names))

  -- each of them names one
  all_named : (words : List (Bor (List ℕ))) (named : List X) → NameEach Names words named → All (λ word. (one : X) × Names word.now one) words
  all_named [] named are = All-nil _
  all_named (word ∷ words) named are = All-cons (λ word. (one : X) × Names word.now one) word words (are.0, are.2) (all_named words are.1 are.3)

  -- this is the first argument that names none
  pub first_unknown : (words : List (Bor (List ℕ))) (k : ℕ) (d : Bor (List ℕ)) (named : List X) → k < length words → NameEach Names (take k words) named
      → ((one : X) → ¬ Names (get_or words k d).now one) → IsFirstUnknown (λ word. (one : X) × Names word.now one) words (get_or words k d)
  first_unknown words k d named lt are none = (take k words, drop (suc k) words, split_at words k d lt, all_named (take k words) named are, (λ one. none one.0 one.1))
