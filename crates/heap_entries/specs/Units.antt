-- UTF-16 units of user strings (ECMA-335 II.24.2.4).
use Rattle.std.specs.Prelude.{ℕ, ◌/◌, ◌%◌, List, [], ◌∷◌}

-- the two bytes of a unit, the lower byte first
abbrev pub unit_bytes : ℕ → List ℕ
unit_bytes unit = unit % 256 ∷ unit / 256 ∷ []
