-- The escapes of a text: `\x` and two hexadecimal digits.
use Rattle.std.specs.Prelude.{ℕ, zero, suc, ◌+◌, ◌*◌, ◌==◌, ◌&&◌, ◌||◌, Bool, not, nat_lt, if◌then◌else◌, List, [], ◌∷◌, Option, None, Some, drop}
use Rattle.std.specs.Char.{digit_value}

-- a quote or a backslash: it is escaped in each form
abbrev pub is_quote : ℕ → Bool
is_quote byte = byte == 34 || byte == 39 || byte == 92

-- the byte that `\x` and two hexadecimal digits stand for, unless it is a quote or a backslash
abbrev pub byte_of : ℕ → ℕ → Option ℕ
byte_of high low = if nat_lt high 16 && nat_lt low 16 && not (is_quote (16 * high + low)) then Some (16 * high + low) else None

-- the byte whose escape these four bytes are
abbrev pub escape_of : ℕ → ℕ → ℕ → ℕ → Option ℕ
escape_of first second high low = if first == 92 && second == 120 then byte_of (digit_value high) (digit_value low) else None

-- the byte whose escape is at the start of a text
unfoldable pub escaped_at : List ℕ → Option ℕ
escaped_at (first ∷ (second ∷ (high ∷ (low ∷ tail)))) = escape_of first second high low
escaped_at _ = None

-- the bytes whose escapes are at the start of a text, this many at most
unfoldable pub escaped_start : ℕ → List ℕ → List ℕ
escaped_start zero text = []
escaped_start (suc count) text = before_later (escaped_at text) (escaped_start count (drop 4 text))
  where
    before_later : Option ℕ → List ℕ → List ℕ
    before_later None later = []
    before_later (Some byte) later = byte ∷ later
