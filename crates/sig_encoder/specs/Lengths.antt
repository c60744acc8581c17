-- The effect of a part of a signature on the measurer (ECMA-335 II.23.2): the bytes that are left, if the part fits.
use Rattle.std.specs.Prelude.{ℕ, ◌-◌, ◌^◌, ◌&&◌, nat_lt, nat_le, Bool, if◌then◌else◌, Option, Some, None, Result, Ok, Err, length}
use Rattle.std.specs.List.{position_or_len}
use Rattle.packed.specs.Packed.{fits_bits}
use Rattle.table_schema.specs.declared.token.Token.{Token}
use Rattle.table_schema.specs.declared.coded.Coded.TheVariants.{TypeDefOrRef}
use Rattle.table_schema.specs.CodedIndexes.{tables_of}
use Rattle.sig_grammar.specs.Parts.{Part, byte, number, signed, index, is_table, index_number, short_part}
use Rattle.sig_encoder.specs.Items.{Item, part, broken}
use Rattle.sig_encoder.specs.declared.measurer.Measurer.{Measurer}

-- an index can encode the table
abbrev pub has_tag : Token → Bool
has_tag token = nat_lt (position_or_len (is_table token.table) (tables_of TypeDefOrRef)) 3

-- the part has an encoding
abbrev pub has_short : Part → Bool
has_short (byte c) = nat_lt c 256
has_short (number n) = nat_lt n (2 ^ 29)
has_short (signed z) = fits_bits 29 z
has_short (index token) = has_tag token && nat_lt (index_number token) (2 ^ 29)

-- the number of an index that has an encoding
unfoldable pub number_of : Token → Option ℕ
number_of token = if has_tag token && nat_lt (index_number token) (2 ^ 29) then Some (index_number token) else None

unfoldable pub take_room : ℕ → Measurer → Result Measurer Measurer
take_room count room = if nat_le count room.left then Ok (record { left = room.left - count }) else Err room

-- it stops if the grammar or the depth is broken, or if a part has no encoding, or none that fits
unfoldable pub measurer_step : Item → Measurer → Result Measurer Measurer
measurer_step broken room = Err room
measurer_step (part p) room = if has_short p then take_room (length (short_part p)) room else Err room
