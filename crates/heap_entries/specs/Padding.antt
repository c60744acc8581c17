-- The padding of a heap: the size of a stream is a multiple of four (ECMA-335 II.24.2.2).
use Rattle.std.specs.Prelude.{ℕ, ◌-◌, ◌%◌, List, ◌++◌, length, replicate}

-- the bytes, padded with zeros to a multiple of four
abbrev pub zero_padded : List ℕ → List ℕ
zero_padded bytes = bytes ++ replicate ((4 - length bytes % 4) % 4) 0
