-- The text of a GUID.
use Rattle.std.specs.Prelude.{ℕ, List, ◌++◌, reverse}
use Rattle.packed.specs.Offsets.{part}

-- the bytes of a GUID in the order of its text: the first three fields, of four, two and two bytes, are reversed;
-- the heap has their lowest byte first, the text has their highest byte first (II.24.2.5)
abbrev pub as_read : List ℕ → List ℕ
as_read guid = reverse (part guid 0 4) ++ reverse (part guid 4 2) ++ reverse (part guid 6 2) ++ part guid 8 8
