-- The first byte of a heap of blobs or user strings: the length 0 of the empty blob (ECMA-335 II.24.2.4).
use Rattle.std.specs.Prelude.{ℕ, List, [], ◌∷◌}

-- the heap with its first byte, also if nothing was written yet
abbrev pub begun : List ℕ → List ℕ
begun [] = 0 ∷ []
begun (byte ∷ bytes) = byte ∷ bytes
