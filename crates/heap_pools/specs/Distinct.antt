-- The values of a pool: each once, in the order of first use, without the empty value.
use Rattle.std.specs.Prelude.{ℕ, Bool, List, [], ◌∷◌, ◌++◌, if◌then◌else◌}
use Rattle.std.specs.List.{list_any}
use Rattle.std.specs.Str.{bytes_eq}

-- whether the list contains the value
abbrev pub is_among : List (List ℕ) → List ℕ → Bool
is_among values value = list_any (bytes_eq value) values

-- the values that are not in `before` and not earlier in the list
abbrev pub first_uses : List (List ℕ) → List (List ℕ) → List (List ℕ)
first_uses before [] = []
first_uses before (value ∷ values) =
    if is_among before value then first_uses (before ++ value ∷ []) values else value ∷ first_uses (before ++ value ∷ []) values

-- the values of the list without duplicates and without the empty value, in the order of first use
abbrev pub distinct : List (List ℕ) → List (List ℕ)
distinct used = first_uses ([] ∷ []) used

-- a pool's entries after a value is added: at the end, unless it is empty or already there
abbrev pub pooled : List (List ℕ) → List ℕ → List (List ℕ)
pooled entries value = if is_among ([] ∷ entries) value then entries else entries ++ value ∷ []
