-- Tokens (ECMA-335 III.1.9): the number of a table in the high byte, and a row in the three bytes below.
use Rattle.std.specs.Prelude.{◌≡◌, ℕ, false, ◌+◌, ◌-◌, ◌*◌, ◌^◌, ◌≤◌, List, [], ◌++◌}
use Rattle.std.specs.Fmt.{digits, format_spec, padded_integral}
use Rattle.table_schema.specs.declared.table.TableId.{TableId}
use Rattle.table_schema.specs.declared.token.Token.{Token}
use Rattle.table_schema.specs.Tables.{table_number}

-- the token of a row
abbrev pub token_at : TableId → ℕ → Token
token_at table row = record { table = table; row = row }

-- the four-byte number encodes the token
pub record IsToken (number : ℕ) (token : Token) : Type 0 where
  pub row : token.row ≤ 0xFFFFFF
  pub equal : number ≡ table_number token.table * 2 ^ 24 + token.row

-- a number in lower-case hexadecimal, padded with zeros to `least` digits; as `{:02x}` writes it if `least` is 2
abbrev pub hexadecimal : ℕ → ℕ → List ℕ
hexadecimal least number = padded_integral (format_spec 32 0 4 least (2 ^ 64 - 1)) false [] (digits 16 false number)

-- the text of a token: two digits of the table's number and six of the row
abbrev pub token_text : Token → List ℕ
token_text token = hexadecimal 2 (table_number token.table) ++ hexadecimal 6 token.row
