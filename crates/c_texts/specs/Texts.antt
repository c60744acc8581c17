-- Texts in a caller's buffer.
use Rattle.std.specs.Prelude.{◌≡◌, ℕ, ◌+◌, ◌-◌, ◌^◌, ◌<◌, ◌≤◌, min, List, ◌++◌, length, take, drop, flat_map}
use Rattle.std.specs.Borrow.{Bor}

-- a buffer after a text was written to its start, or the first bytes of the text if there is no room for more; the bytes
-- after it are unchanged
abbrev pub with_text : List ℕ → List ℕ → List ℕ
with_text buffer text = take (length buffer) text ++ drop (length text) buffer

-- the buffer has the text, or is unchanged if it has no room for all of it
abbrev pub HasWhole : List ℕ → List ℕ → List ℕ → Type 0
HasWhole initial text buffer = (length text ≤ length initial → buffer ≡ with_text initial text) × (length initial < length text → buffer ≡ initial)

-- the same, if the text is written from an offset on
abbrev pub overwritten : List ℕ → ℕ → List ℕ → List ℕ
overwritten buffer at text = take at buffer ++ take (length buffer - at) text ++ drop (at + length text) buffer

-- a number of bytes, as the greatest number of 64 bits if it is greater
abbrev pub counted : ℕ → ℕ
counted bytes = min bytes (2 ^ 64 - 1)

-- the parts of a text, one after another
abbrev pub joined : List (Bor (List ℕ)) → List ℕ
joined parts = flat_map (λ part. part.now) parts

-- the largest number of bytes of a text that is written as it is made
abbrev pub text_limit : ℕ
text_limit = 2 ^ 16

-- the result for such a text: its length, or `CLIM_TOO_LONG` if it is longer than the limit
abbrev pub IsLenWithin : ℕ → List ℕ → Type 0
IsLenWithin len text = (length text ≤ text_limit → len ≡ length text) × (text_limit < length text → len ≡ 2 ^ 64 - 1)

-- a text was written into the buffer so far, up to its end, and its length is counted up to `most`
abbrev pub HasText : ℕ → List ℕ → List ℕ → List ℕ → ℕ → Type 0
HasText most initial text buffer len = (buffer ≡ with_text initial text) × (len ≡ min most (length text))

-- bytes are written after such a text, whatever it is
abbrev pub Extends : ℕ → List ℕ → ℕ → List ℕ → List ℕ → ℕ → Type 0
Extends most buffer len bytes new_buffer new_len =
    (initial text : List ℕ) → length initial ≤ most → HasText most initial text buffer len → HasText most initial (text ++ bytes) new_buffer new_len
