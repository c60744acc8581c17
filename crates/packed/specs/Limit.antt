-- The size limit of files, roots and heaps.
use Rattle.std.specs.Prelude.{ℕ, ◌^◌}

-- the largest number of bytes of a file, a metadata root or a heap
abbrev pub byte_limit : ℕ
byte_limit = 2 ^ 30
