-- The entries of user strings that are written (ECMA-335 II.24.2.4).
use Rattle.std.specs.Prelude.{ℕ, ◌+◌, ◌*◌, ◌/◌, ◌%◌, Bool, not, ◌&&◌, ◌||◌, ◌==◌, nat_le, List, [], ◌∷◌, ◌++◌, length, flat_map, if◌then◌else◌}
use Rattle.std.specs.List.{list_any}
use Rattle.packed.specs.Packed.{short_unsigned}
use Rattle.heap_entries.specs.Units.{unit_bytes}

-- whether a byte is one of 01 to 08, 0E to 1F, 27, 2D and 7F (II.24.2.4)
abbrev pub is_special_byte : ℕ → Bool
is_special_byte byte =
    (nat_le 0x01 byte && nat_le byte 0x08) || ((nat_le 0x0E byte && nat_le byte 0x1F) || (byte == 0x27 || (byte == 0x2D || byte == 0x7F)))

-- whether a unit needs more than plain 8-bit handling (II.24.2.4): its high byte is not 0, or its low byte is special
abbrev pub is_special : ℕ → Bool
is_special unit = not (unit / 256 == 0) || is_special_byte (unit % 256)

-- the last byte of a user string: 1 if one of its units is special, else 0
abbrev pub last_byte : List ℕ → ℕ
last_byte units = if list_any is_special units then 1 else 0

-- the number of bytes of a user string with these units
abbrev pub user_length : List ℕ → ℕ
user_length units = 2 * length units + 1

-- the entry of a user string: its number of bytes in the shortest encoding, its units, and its last byte
unfoldable pub user_entry : List ℕ → List ℕ
user_entry units = short_unsigned (user_length units) ++ (flat_map unit_bytes units ++ last_byte units ∷ [])
