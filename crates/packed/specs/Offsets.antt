-- Parts of a list of bytes.
use Rattle.std.specs.Prelude.{ℕ, List, take, drop}

-- `count` bytes of the whole from offset `offset` on, or fewer if the whole ends earlier
abbrev pub part : List ℕ → ℕ → ℕ → List ℕ
part whole offset count = take count (drop offset whole)
