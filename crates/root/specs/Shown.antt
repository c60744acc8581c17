-- Valid stream headers in a root, as tests on its bytes.
use Rattle.std.specs.Prelude.{ℕ, ◌+◌, ◌<◌, ◌≤◌, List, length, drop}
use Rattle.std.specs.Str.{IsAscii}
use Rattle.root.specs.Fields.{header_at, header_length, header_offset}

-- the header at an offset ends within the root; its name ends with NUL, is ASCII, and is not too long (II.24.2.2)
pub record ShowsHeader (root : List ℕ) (place : ℕ) : Type 0 where
  pub ends : place + header_length (header_at root place) ≤ length root
  pub nul : length (header_at root place).name < length (drop (place + 8) root)
  pub short : length (header_at root place).name ≤ 32
  pub ascii : IsAscii (header_at root place).name

-- `count` headers follow one another
abbrev pub AllShow : List ℕ → ℕ → Type 0
AllShow root count = (i : ℕ) → i < count → ShowsHeader root (header_offset root i)
