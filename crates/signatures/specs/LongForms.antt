-- The first bytes of packed numbers that are longer than necessary (ECMA-335 II.23.2).
use Rattle.std.specs.Prelude.{◌≢◌, ℕ}

-- No packed number that begins with this byte is longer than necessary. One of two bytes that needs only one begins with
-- 0x80, or with 0xBF if it is negative. One of four bytes that needs fewer begins with 0xC0, or with 0xDF.
abbrev pub BeginsNoLongForm : ℕ → Type 0
BeginsNoLongForm byte = (byte ≢ 0x80) × (byte ≢ 0xBF) × (byte ≢ 0xC0) × (byte ≢ 0xDF)
