-- The full names of types (ECMA-335 II.5.3).
use Rattle.std.specs.Prelude.{ℕ, List, [], ◌∷◌, ◌++◌, codes}

-- the namespace and a dot, unless the namespace is empty, then the name
abbrev pub full_name : List ℕ → List ℕ → List ℕ
full_name [] name = name
full_name (first ∷ tail) name = first ∷ tail ++ (codes "." ++ name)
