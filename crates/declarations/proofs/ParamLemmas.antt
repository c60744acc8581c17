-- A name after a space.
use Rattle.declarations.proofs.Prelude.{◌≡◌, length, ℕ, List, [], ◌∷◌, ◌++◌, refl, arith, Identifier, name_text, spaced, codes, ◌==◌, false}

pub spaced_alone : (name : List ℕ) → length name ≡ 0 → spaced name ≡ []
spaced_alone [] none = refl
spaced_alone (c ∷ name) none = absurd (omega arith)

pub spaced_after : (name : List ℕ) → (length name == 0) ≡ false → codes " " ++ name_text Identifier name ≡ spaced name
spaced_after [] some = absurd cc
spaced_after (c ∷ name) some = refl
