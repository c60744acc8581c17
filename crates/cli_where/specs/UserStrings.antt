-- The user strings of a heap, and their tokens (ECMA-335 II.24.2.4 and III.1.9).
use Rattle.std.specs.Prelude.{◌≡◌, ℕ, ◌+◌, ◌-◌, ◌*◌, ◌^◌, ◌<◌, ◌≤◌, ◌⊎◌, List, [], ◌∷◌, length, map, min}
use Rattle.cli_where.specs.Words.{EncodesUserText, IsCounted, UserText, zero_padded, Region, regions_at, user_string}
use Rattle.cli_where.specs.Entries.{Heap}

-- the user string is at this offset of the heap: a packed length, in any of its forms, and its bytes; the next offset
-- follows them
pub record IsEntry (heap : List ℕ) (offset : ℕ) (string : UserText) (next : ℕ) : Type 0 where
  pub blob : List ℕ
  pub stands : IsCounted heap offset blob
  pub encodes : EncodesUserText blob string
  pub follows : next ≡ offset + length stands.count + length blob

-- an entry: its offset, its user string, and the offset after it
pub record Entry : Type 0 where
  pub offset : ℕ
  pub string : UserText
  pub next : ℕ

-- The entries of a heap from an offset on, one after another, up to the first offset that has no entry, or that has more
-- than the three bytes of a token.
abbrev pub AreEntries : List ℕ → ℕ → List Entry → Type 0
AreEntries heap offset [] = (2 ^ 24 ≤ offset) ⊎ ((string : UserText) (next : ℕ) → ¬ IsEntry heap offset string next)
AreEntries heap offset (entry ∷ more) =
    (offset < 2 ^ 24) × (entry.offset ≡ offset) × IsEntry heap offset entry.string entry.next × AreEntries heap entry.next more

-- the token of the user string at an offset: its high byte is 0x70
abbrev pub user_token : ℕ → ℕ
user_token offset = 0x70 * 2 ^ 24 + offset

-- the bytes that a user string has of a heap as a structure: one that needs padding ends with the heap
abbrev pub user_region : Heap → Entry → Region
user_region heap entry = record { start = heap.start + entry.offset; size = min entry.next (length heap.bytes) - entry.offset; what = user_string (user_token entry.offset) }

-- the user strings that contain the byte, of those of the padded heap that follow one another from offset 1 on
abbrev pub AreUsersAt : Heap → ℕ → List Region → Type 0
AreUsersAt heap offset found =
    (entries : List Entry) × AreEntries (zero_padded heap.bytes) 1 entries × (found ≡ regions_at offset (map (user_region heap) entries))
