-- Bytes in hexadecimal, one after another, and bytes that are no pair.
use Rattle.std.proofs.Common.{◌≡◌, ◌∙◌, ℕ, ◌+◌, ◌/◌, ◌%◌, ◌<◌, false, List, [], ◌∷◌, ◌++◌, length, get_or, take, refl, ap, sym, append_assoc, arith, flat_map}
use Rattle.std.proofs.lemmas.List.{flat_map_more, take_more}
use Rattle.std.specs.Fmt.{digit_glyph}
use Rattle.std.proofs.lemmas.Fmt.{hex_byte}
use Rattle.table_schema.specs.Tokens.{hexadecimal}
use Rattle.heap_entries.specs.UserView.{units_in}

-- one more item of a list that is appended item by item
pub items_more : {X : Type 0} (f : X → List ℕ) (line : List ℕ) (xs : List X) (i : ℕ) (d : X) → i < length xs
    → (line ++ flat_map f (take i xs)) ++ f (get_or xs i d) ≡ line ++ flat_map f (take (i + 1) xs)
items_more f line xs i d lt = flat_map_more f line (take i xs) (get_or xs i d) ∙ ap (λ ys. line ++ flat_map f ys) (sym (take_more xs i d lt))

-- the two hexadecimal digits of a byte
pub two_digits : (line : List ℕ) (byte high low : ℕ) → byte < 256 → high ≡ digit_glyph false (byte / 16) → low ≡ digit_glyph false (byte % 16)
    → (line ++ high ∷ []) ++ low ∷ [] ≡ line ++ hexadecimal 2 byte
two_digits line byte high low small high_is low_is = rw (hex_byte false byte small, ← high_is, ← low_is) (append_assoc line (high ∷ []) (low ∷ []))

-- less than two bytes are no unit
pub units_none : (bytes : List ℕ) → length bytes < 2 → units_in bytes ≡ []
units_none [] short = refl
units_none (low ∷ []) short = refl
units_none (low ∷ high ∷ bytes) short = absurd (omega arith)
