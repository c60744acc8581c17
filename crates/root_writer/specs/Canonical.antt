-- The canonical root of a model: its one encoding (ECMA-335 II.24.2.1 and II.24.2.2).
use Rattle.std.specs.Prelude.{ℕ, ◌+◌, nat_lt, List, [], ◌∷◌, ◌++◌, length, filter, flat_map}
use Rattle.root.specs.declared.kind.Kind.{Kind}
use Rattle.root.specs.declared.kind.Kind.TheVariants.{Tables, Strings, UserStrings, Guids, Blobs}
use Rattle.root.specs.Streams.{stream_name}
use Rattle.root.specs.Root.{signature}
use Rattle.schema.specs.LaidOut.{number_bytes}
use Rattle.heap_entries.specs.Padding.{zero_padded}
use Rattle.metadata.specs.Metadata.{Metadata}
use Rattle.root_writer.specs.Pools.{texts_stream, blobs_stream, guids_stream}
use Rattle.root_writer.specs.TableStream.{table_stream}

-- the bytes of each stream (II.24.2.2)
abbrev pub stream : Metadata → Kind → List ℕ
stream model Tables = table_stream model
stream model Strings = texts_stream model
stream model UserStrings = model.user
stream model Guids = guids_stream model
stream model Blobs = blobs_stream model

-- the kinds of the streams in order; a stream without bytes is left out
unfoldable pub streams_of : Metadata → List Kind
streams_of model = filter (λ kind. nat_lt 0 (length (stream model kind))) (Tables ∷ Strings ∷ UserStrings ∷ Guids ∷ Blobs ∷ [])

-- a text with its terminating NUL, padded with zeros to a multiple of four
abbrev pub ended : List ℕ → List ℕ
ended text = zero_padded (text ++ 0 ∷ [])

-- the header of a stream at an offset: Offset, Size, Name (II.24.2.2)
abbrev pub stream_header : (Kind → List ℕ) → ℕ → Kind → List ℕ
stream_header streams offset kind = number_bytes 4 offset ++ number_bytes 4 (length (streams kind)) ++ ended (stream_name kind)

-- the headers of consecutive streams, the first of them at an offset
abbrev pub directory : (Kind → List ℕ) → ℕ → List Kind → List ℕ
directory streams offset [] = []
directory streams offset (kind ∷ kinds) = stream_header streams offset kind ++ directory streams (offset + length (streams kind)) kinds

-- the root header: Signature, MajorVersion 1, MinorVersion 1, Reserved 0, Length, Version, Flags 0 and Streams
-- (II.24.2.1)
abbrev pub prefix : List ℕ → ℕ → List ℕ
prefix version count =
    signature ++ (1 ∷ 0 ∷ 1 ∷ 0 ∷ 0 ∷ 0 ∷ 0 ∷ 0 ∷ []) ++ number_bytes 4 (length (ended version)) ++ ended version ++ (0 ∷ 0 ∷ []) ++ number_bytes 2 count

-- the offset of the first stream, after the root header and all stream headers; their length does not depend on offsets
abbrev pub first_offset : List ℕ → (Kind → List ℕ) → List Kind → ℕ
first_offset version streams kinds = length (prefix version (length kinds)) + length (directory streams 0 kinds)

-- the root header, the stream headers and the bytes of the streams, without gaps
unfoldable pub root_of : List ℕ → (Kind → List ℕ) → List Kind → List ℕ
root_of version streams kinds =
    prefix version (length kinds) ++ directory streams (first_offset version streams kinds) kinds ++ flat_map streams kinds

-- the canonical root of a model
abbrev pub canonical : Metadata → List ℕ
canonical model = root_of model.version (stream model) (streams_of model)
