-- The bytes of a strings heap that was checked once as a whole, and what is known of them.
use Rattle.std.specs.Prelude.{◌≡◌, ℕ, List, Option, Some, IfSome, MatchOption, IsUtf8}
use Rattle.std.specs.Borrow.{Bor}
use Rattle.memchr.specs.Find.{IsLastByte, is_byte}
use Rattle.heap_entries.specs.declared.strings.Strings.TheInside.{Inside}

abbrev pub heap_of : Inside → List ℕ
heap_of strings = strings.heap.now

-- `whole` is present if and only if the bytes of the heap are UTF-8; it is then all of them as a text
abbrev pub IsWhole : List ℕ → Option (Bor (List ℕ)) → Type 0
IsWhole heap whole = MatchOption whole (¬ IsUtf8 heap) (λ whole. (whole.now ≡ heap) × IsUtf8 heap)

-- if the offset of the last NUL is known, it is correct
pub record IsKnown (strings : Inside) : Type 0 where
  pub whole : IsWhole strings.heap.now strings.whole
  pub last : IfSome strings.last_nul (λ last. IsLastByte (is_byte 0) strings.heap.now (Some last))
