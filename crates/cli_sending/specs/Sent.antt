-- What went out to a writer, if the writer's bytes are known.
use Rattle.std.specs.Prelude.{◌≡◌, ℕ, List, ◌++◌, Option, Result, MatchResult}
use Rattle.std.specs.Io.KnownBytes.{Appends}

-- of these bytes all went out but the last ones, which are left
abbrev pub Sends : Option (List ℕ) → Option (List ℕ) → List ℕ → List ℕ → Type 0
Sends before after bytes left = (sent : List ℕ) × (bytes ≡ sent ++ left) × Appends before after sent

-- nothing or a prefix of the text went out
abbrev pub SendsPrefix : Option (List ℕ) → Option (List ℕ) → List ℕ → Type 0
SendsPrefix before after text = (left : List ℕ) × Sends before after text left

-- all of the text went out if it succeeds; else nothing or a prefix of it
abbrev pub Sent : {T E : Type 0} → Option (List ℕ) → Option (List ℕ) → Result T E → List ℕ → Type 0
Sent before after result text = MatchResult result (λ done. Appends before after text) (λ error. SendsPrefix before after text)
