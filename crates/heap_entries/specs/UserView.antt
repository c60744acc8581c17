-- The value of a user string, by its bytes.
use Rattle.std.specs.Prelude.{◌≡◌, ℕ, ◌+◌, ◌*◌, ◌%◌, ◌<◌, List, [], ◌∷◌, length, Option, Some, None}
use Rattle.heap_entries.specs.declared.user_strings.UserString.TheInside.{Inside as StringInside}
use Rattle.heap_entries.specs.declared.user_strings.Units.TheInside.{Inside as UnitsInside}
use Rattle.heap_entries.specs.Entries.{UserText}

-- the units in pairs of bytes, the lower byte first; a single byte at the end is not a unit
abbrev pub units_in : List ℕ → List ℕ
units_in [] = []
units_in (low ∷ []) = []
units_in (low ∷ high ∷ bytes) = (low + 256 * high) ∷ units_in bytes

-- the last byte
abbrev pub last_of : List ℕ → Option ℕ
last_of [] = None
last_of (byte ∷ []) = Some byte
last_of (byte ∷ next ∷ bytes) = last_of (next ∷ bytes)

-- the user string in the bytes of a blob
abbrev pub user_text : List ℕ → UserText
user_text blob = record { units = units_in blob; flag = last_of blob }

abbrev pub string_of : StringInside → UserText
string_of string = user_text string.blob.now

-- the number of bytes is 0 or odd
abbrev pub IsUserBlob : StringInside → Type 0
IsUserBlob string = 0 < length string.blob.now → length string.blob.now % 2 ≡ 1

abbrev pub units_left : UnitsInside → List ℕ
units_left units = units_in units.bytes.now
