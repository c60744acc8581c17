-- One call of a writer.
use Rattle.std.proofs.Common.{ℕ, List, [], ◌∷◌, refl, append-nil}
use Rattle.std.specs.Fmt.{WritesInCalls}

pub one_call : {W : Type 0} {took : W → List ℕ → W → Type 0} (w : W) (bs : List ℕ) (v : W) → took w bs v → WritesInCalls took w bs v
one_call w bs v h = record { parts = bs ∷ []; calls = (v, h, refl); whole = append-nil bs }
