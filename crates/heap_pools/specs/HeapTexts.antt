-- The texts of a strings heap at given indexes (ECMA-335 II.24.2.3).
use Rattle.std.specs.Prelude.{◌==◌, ℕ, zero, suc, List, [], ◌∷◌, map, drop, if◌then◌else◌}

-- the bytes before the first NUL; all of them if there is none
abbrev pub before_nul : List ℕ → List ℕ
before_nul [] = []
before_nul (byte ∷ bytes) = if byte == 0 then [] else byte ∷ before_nul bytes

-- the text at an index: at index 0 it is empty, otherwise it is the bytes up to the next NUL
unfoldable pub heap_text : List ℕ → ℕ → List ℕ
heap_text heap zero = []
heap_text heap (suc before) = before_nul (drop (suc before) heap)

-- the text at each index
abbrev pub texts_at : List ℕ → List ℕ → List (List ℕ)
texts_at heap indexes = map (heap_text heap) indexes
