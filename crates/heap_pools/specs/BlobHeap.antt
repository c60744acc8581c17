-- The blob heap that is written (ECMA-335 II.24.2.4).
use Rattle.std.specs.Prelude.{ℕ, ◌+◌, List, [], ◌∷◌, ◌++◌, length, flat_map, if◌then◌else◌}
use Rattle.std.specs.Str.{bytes_eq}
use Rattle.packed.specs.Packed.{short_unsigned}

-- the entry of a blob: its length in the shortest encoding, and its bytes
unfoldable pub counted : List ℕ → List ℕ
counted blob = short_unsigned (length blob) ++ blob

-- the heap with these entries: a zero byte, then the entries one after another; no bytes if there are no entries
abbrev pub blob_heap : List (List ℕ) → List ℕ
blob_heap [] = []
blob_heap (blob ∷ blobs) = 0 ∷ flat_map counted (blob ∷ blobs)

-- the offset of a blob's entry, if the first entry is at offset `at`
abbrev pub blob_from : ℕ → List (List ℕ) → List ℕ → ℕ
blob_from at [] blob = 0
blob_from at (entry ∷ entries) blob = if bytes_eq blob entry then at else blob_from (at + length (counted entry)) entries blob

-- the index of a blob in the heap with these entries; the empty blob has index 0
abbrev pub blob_index : List (List ℕ) → List ℕ → ℕ
blob_index entries [] = 0
blob_index entries (byte ∷ bytes) = blob_from 1 entries (byte ∷ bytes)
