-- Numbers in hexadecimal digits.
use Rattle.std.specs.Prelude.{◌-◌, ◌^◌, ℕ, true, false, List, []}
use Rattle.std.specs.Fmt.{digits, format_spec, padded_integral}

-- a number in two upper-case hexadecimal digits, as `{:02X}` writes it
abbrev pub upper_hexadecimal : ℕ → List ℕ
upper_hexadecimal number = padded_integral (format_spec 32 0 4 2 (2 ^ 64 - 1)) false [] (digits 16 true number)
