-- The strings heap that is written (ECMA-335 II.24.2.3), for the texts of a model in the order of their use.
use Rattle.std.specs.Prelude.{ℕ, ◌+◌, ◌-◌, Bool, not, ◌&&◌, List, [], ◌∷◌, ◌++◌, length, filter, if◌then◌else◌}
use Rattle.std.specs.List.{list_any}
use Rattle.heap_pools.specs.Distinct.{distinct}
use Rattle.heap_pools.specs.Ending.{ends_with}
use Rattle.std.specs.Str.{bytes_eq}

-- a holder: no other used text ends with this text
unfoldable pub is_holder : List (List ℕ) → List ℕ → Bool
is_holder used text = not (list_any (λ other. ends_with other text && not (bytes_eq other text)) used)

-- the texts with an entry of their own: the holders, in the order of first use
abbrev pub holders : List (List ℕ) → List (List ℕ)
holders used = filter (is_holder used) (distinct used)

-- the entries one after another, each with a NUL at its end
abbrev pub ended : List (List ℕ) → List ℕ
ended [] = []
ended (entry ∷ entries) = entry ++ 0 ∷ ended entries

-- the heap with these entries: a zero byte, then the entries; no bytes if there are no entries
abbrev pub text_heap : List (List ℕ) → List ℕ
text_heap [] = []
text_heap (entry ∷ entries) = 0 ∷ ended (entry ∷ entries)

-- the index of a text, if the entries begin at `at`: the text is the ending of the first entry that ends with it
abbrev pub text_from : ℕ → List (List ℕ) → List ℕ → ℕ
text_from at [] text = 0
text_from at (entry ∷ entries) text =
    if ends_with entry text then at + length entry - length text
    else text_from (at + length entry + 1) entries text

-- the index of a text in the heap with these entries; the empty text has index 0
abbrev pub text_index : List (List ℕ) → List ℕ → ℕ
text_index entries [] = 0
text_index entries (byte ∷ bytes) = text_from 1 entries (byte ∷ bytes)
