-- Bytes that are written in sequence, into memory that was allocated before.
use Rattle.std.specs.Prelude.{◌≡◌, ℕ, ◌+◌, ◌-◌, ◌%◌, ◌≤◌, List, ◌++◌, length, replicate}

-- the bytes written so far, and the number of bytes that there is still room for
pub record Written : Type 0 where
  pub bytes : List ℕ
  pub room : ℕ

-- these bytes were written after the old ones, into the room for them
pub record Puts (old new : Written) (more : List ℕ) : Type 0 where
  pub bytes : new.bytes ≡ old.bytes ++ more
  pub room : old.room ≤ new.room + length more

-- the zeros that pad this number of bytes to a multiple of four
abbrev pub padding : ℕ → List ℕ
padding count = replicate ((4 - count % 4) % 4) 0
