-- What a writer took in several calls, and the texts of a descriptor that are there.
use Rattle.declarations.proofs.Prelude.{WritesInCalls, writes_append, library_text, quoted_text, type_after, ◌+◌, ◌≡◌, ℕ, List, [], ◌∷◌, ◌++◌, ◌⊎◌, inl, inr, false, length, OnOk, Ok, Err, Result, refl, subst, codes, ◌==◌}
use Rattle.std.specs.declared.fmt.Error.{Error}

-- what was written before the last call, by another name for it, and by the last call
pub writes_then : {W : Type 0} (took : W → List ℕ → W → Type 0) {w : W} {a : List ℕ} {v : W} (prefix b : List ℕ) (u : W) (result : Result (Unit {0}) Error) → a ≡ prefix
    → WritesInCalls took w a v → OnOk result (WritesInCalls took v b u) → OnOk result (WritesInCalls took w (prefix ++ b) u)
writes_then took {w = w} {v = v} prefix b u (Ok done) same p q = writes_append took w prefix v b u (subst (λ (t : List ℕ). WritesInCalls took w t v) same p) q
writes_then took prefix b u (Err e) same p q = tt

pub type_there : (name : List ℕ) → (length name == 0) ≡ false → codes ", " ++ quoted_text name ≡ type_after name
type_there [] some = absurd cc
type_there (c ∷ name) some = refl

pub library_there : (guid unmanaged : List ℕ) → ((length guid == 0) ≡ false) ⊎ ((length unmanaged == 0) ≡ false)
    → quoted_text guid ++ (codes ", " ++ (quoted_text unmanaged ++ codes ", ")) ≡ library_text guid unmanaged
library_there [] [] (inl some) = absurd cc
library_there [] [] (inr some) = absurd cc
library_there [] (c ∷ unmanaged) some = refl
library_there (c ∷ guid) [] some = refl
library_there (c ∷ guid) (d ∷ unmanaged) some = refl
