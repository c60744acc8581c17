-- The headers of a root before its streams, by the sizes of the streams (ECMA-335 II.24.2.1 and II.24.2.2).
use Rattle.std.specs.Prelude.{ℕ, ◌+◌, nat_lt, List, [], ◌∷◌, ◌++◌, length, filter}
use Rattle.root.specs.declared.kind.Kind.{Kind}
use Rattle.root.specs.declared.kind.Kind.TheVariants.{Tables, Strings, UserStrings, Guids, Blobs}
use Rattle.root.specs.Streams.{stream_name}
use Rattle.schema.specs.LaidOut.{number_bytes}
use Rattle.root_writer.specs.Canonical.{ended, prefix}
use Rattle.root_writer.specs.declared.sizes.StreamSizes.{StreamSizes}

-- the number of bytes in a stream
abbrev pub size_of : StreamSizes → Kind → ℕ
size_of sizes Tables = sizes.tables
size_of sizes Strings = sizes.strings
size_of sizes UserStrings = sizes.user_strings
size_of sizes Guids = sizes.guids
size_of sizes Blobs = sizes.blobs

-- the kinds of the streams, in order
abbrev pub kinds_in_order : List Kind
kinds_in_order = Tables ∷ Strings ∷ UserStrings ∷ Guids ∷ Blobs ∷ []

-- the kinds of the streams that have bytes, in order
abbrev pub held : (Kind → ℕ) → List Kind
held size = filter (λ kind. nat_lt 0 (size kind)) kinds_in_order

-- the header of a stream at an offset: Offset, Size, Name (II.24.2.2)
abbrev pub sized_header : (Kind → ℕ) → ℕ → Kind → List ℕ
sized_header size offset kind = number_bytes 4 offset ++ number_bytes 4 (size kind) ++ ended (stream_name kind)

-- the length of a stream header; it depends neither on the offset nor on the size of the stream
abbrev pub header_length : Kind → ℕ
header_length kind = 8 + length (ended (stream_name kind))

-- the headers of consecutive streams, the first of them at an offset
abbrev pub sized_directory : (Kind → ℕ) → ℕ → List Kind → List ℕ
sized_directory size offset [] = []
sized_directory size offset (kind ∷ kinds) = sized_header size offset kind ++ sized_directory size (offset + size kind) kinds

-- the offset of the first stream
abbrev pub heading_size : List ℕ → (Kind → ℕ) → List Kind → ℕ
heading_size version size kinds = length (prefix version (length kinds)) + length (sized_directory size 0 kinds)

-- all headers before the first stream
abbrev pub heading : List ℕ → (Kind → ℕ) → List Kind → List ℕ
heading version size kinds = prefix version (length kinds) ++ sized_directory size (heading_size version size kinds) kinds
