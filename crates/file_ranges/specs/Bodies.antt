-- The length of a method body (ECMA-335 II.25.4).
use Rattle.std.specs.Prelude.{ℕ, zero, suc, ◌+◌, ◌*◌, ◌%◌, ◌/◌, ◌≤◌, ◌==◌, nat_lt, if◌then◌else◌, List, Option, Some, None, MatchOption, length}
use Rattle.packed.specs.Number.{little_endian}
use Rattle.packed.specs.Offsets.{part}
use Rattle.file_ranges.specs.Fields.{aligned, number_at}

-- the byte at an offset
abbrev pub byte_at : List ℕ → ℕ → ℕ
byte_at body offset = little_endian (part body offset 1)

-- the size of a data section, in three bytes if it is fat and else in one (II.25.4.5); it counts its own header
abbrev pub data_size : List ℕ → ℕ → ℕ
data_size body offset =
    if byte_at body offset / 0x40 % 2 == 1 then number_at body offset / 256 else byte_at body (offset + 1)

-- The end of the data sections of a body, the first of which begins at the next multiple of four. Another follows if the
-- highest bit of its kind says so (II.25.4.5). There is none if they do not end in the bytes, or if there are more than
-- `most`.
unfoldable pub data_end : List ℕ → ℕ → ℕ → Option ℕ
data_end body zero offset = None
data_end body (suc most) offset =
    let start = aligned 4 offset in
    if nat_lt (length body) (start + 4) then None
    else (if nat_lt (data_size body start) 4 then None
    else (if byte_at body start / 0x80 == 0 then Some (start + data_size body start)
    else data_end body most (start + data_size body start)))

-- the largest number of data sections that are looked at
abbrev pub data_limit : ℕ
data_limit = 64

-- The end of a body with a fat header (II.25.4.3): the size of the header in units of four bytes, Flags, CodeSize at
-- offset 4, and data sections if Flags say so.
abbrev pub fat_end : List ℕ → Option ℕ
fat_end body =
    let flags = little_endian (part body 0 2) in
    let code_end = 4 * (flags / 0x1000) + number_at body 4 in
    if nat_lt (length body) 12 then None
    else (if flags / 8 % 2 == 0 then Some code_end else data_end body data_limit code_end)

-- The end of the body that begins with these bytes. The low two bits of the first one say whether its header is tiny
-- (II.25.4.2) or fat. Any other byte is taken for a body of one byte.
abbrev pub body_end : List ℕ → Option ℕ
body_end body =
    if length body == 0 then None
    else (if byte_at body 0 % 4 == 2 then Some (1 + byte_at body 0 / 4)
    else (if byte_at body 0 % 4 == 3 then fat_end body else Some 1))

-- the body that begins with these bytes ends in them
abbrev pub EndsWithin : List ℕ → Type 0
EndsWithin body = MatchOption (body_end body) ⊥ (λ stop. stop ≤ length body)
