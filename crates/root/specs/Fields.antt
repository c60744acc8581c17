-- The values in the fields of a root (ECMA-335 II.24.2.1 and II.24.2.2), whether or not the bytes are a root.
use Rattle.std.specs.Prelude.{ℕ, zero, suc, ◌+◌, ◌*◌, ◌/◌, List, [], ◌∷◌, ◌++◌, length, drop, ◌==◌}
use Rattle.std.specs.List.{before_first}
use Rattle.packed.specs.Number.{little_endian}
use Rattle.packed.specs.Offsets.{part}
use Rattle.root.specs.Streams.{Header, RootRead}

-- the bytes before the first NUL
abbrev pub before_nul : List ℕ → List ℕ
before_nul bytes = before_first (λ byte. byte == 0) bytes

-- Length (II.24.2.1)
abbrev pub version_length : List ℕ → ℕ
version_length root = little_endian (part root 12 4)

-- Version, without its NUL and padding (II.24.2.1)
abbrev pub version_of : List ℕ → List ℕ
version_of root = before_nul (part root 16 (version_length root))

-- Streams, the field after Version and Flags (II.24.2.1)
abbrev pub header_count : List ℕ → ℕ
header_count root = little_endian (part root (18 + version_length root) 2)

-- the stream header at an offset (II.24.2.2)
abbrev pub header_at : List ℕ → ℕ → Header
header_at root place = record {
  place = place;
  offset = little_endian (part root place 4);
  size = little_endian (part root (place + 4) 4);
  name = before_nul (drop (place + 8) root);
}

-- the number of bytes of a header; its name ends with NUL and is padded to a multiple of four (II.24.2.2)
abbrev pub header_length : Header → ℕ
header_length header = 8 + (length header.name + 4) / 4 * 4

-- the offset of header i: the first follows Streams, each other begins where the one before it ends
abbrev pub header_offset : List ℕ → ℕ → ℕ
header_offset root zero = 20 + version_length root
header_offset root (suc i) = header_offset root i + header_length (header_at root (header_offset root i))

-- header i, counted from 0
abbrev pub header_number : List ℕ → ℕ → Header
header_number root i = header_at root (header_offset root i)

-- the first i headers
abbrev pub headers_before : List ℕ → ℕ → List Header
headers_before root zero = []
headers_before root (suc i) = headers_before root i ++ header_number root i ∷ []

-- the whole root: its bytes, Version, and the number of headers that Streams gives
abbrev pub root_read : List ℕ → RootRead
root_read root = record { bytes = root; version = version_of root; headers = headers_before root (header_count root) }
