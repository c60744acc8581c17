-- The GUID heap that is written (ECMA-335 II.24.2.5).
use Rattle.std.specs.Prelude.{ℕ, ◌+◌, List, [], ◌∷◌, flat_map, Option, Some, None}
use Rattle.std.specs.List.{position_or_len}
use Rattle.std.specs.Str.{bytes_eq}
use Rattle.heap_pools.specs.Distinct.{pooled}

-- a pool's entries after a GUID is added: at the end, unless it is null or already there
abbrev pub pooled_guid : List (List ℕ) → Option (List ℕ) → List (List ℕ)
pooled_guid entries None = entries
pooled_guid entries (Some guid) = pooled entries guid

-- a list of the GUID, which is empty for null
abbrev pub given : Option (List ℕ) → List (List ℕ)
given None = []
given (Some guid) = guid ∷ []

-- the heap with these entries: one after another
abbrev pub guid_heap : List (List ℕ) → List ℕ
guid_heap entries = flat_map (λ guid. guid) entries

-- the index of a GUID in the heap with these entries, counted from 1; null has index 0
abbrev pub guid_index : List (List ℕ) → Option (List ℕ) → ℕ
guid_index entries None = 0
guid_index entries (Some guid) = position_or_len (bytes_eq guid) entries + 1
