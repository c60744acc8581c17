-- Bytes up to a NUL.
use Rattle.checks.proofs.Prelude.{◌≡◌, ℕ, ◌+◌, ◌<◌, List, ◌∷◌, drop, length, slice_index, sym, ap, ◌∙◌, get_or_append_left, get_or-drop, IsEnded, IsText}
use Rattle.std.proofs.Common.{IsUtf8}
use Rattle.heap_entries.proofs.TextLemmas.{tail_is, text_same}

-- a byte at an index of them, in the heap
pub byte_is : (heap : List ℕ) (start : ℕ) (bytes : List ℕ) (e : IsEnded heap start bytes) (k : ℕ) → k < length bytes → slice_index bytes k ≡ slice_index heap (start + k)
byte_is heap start bytes e k h =
    sym (get_or_append_left bytes (0 ∷ e.after) 0 k h) ∙ ap (λ l. slice_index l k) (sym (tail_is heap start bytes e)) ∙ get_or-drop start heap k 0

-- where bytes that are not UTF-8 are ended there is no text
pub no_text : (heap : List ℕ) (start : ℕ) (bytes : List ℕ) → 0 < start → IsEnded heap start bytes → ¬ IsUtf8 bytes → ¬ ((text : List ℕ) × IsText heap start text)
no_text heap start bytes some ended not (text, is) = not (text_same heap start bytes text some ended is).1
