-- The streams of a root (ECMA-335 II.24.2.2).
use Rattle.std.specs.Prelude.{ℕ, ◌+◌, List, codes, Option}
use Rattle.std.specs.List.{find}
use Rattle.std.specs.Option.{option_map}
use Rattle.std.specs.Str.{bytes_eq}
use Rattle.packed.specs.Offsets.{part}
use Rattle.root.specs.declared.kind.Kind.{Kind}
use Rattle.root.specs.declared.kind.Kind.TheVariants.{Tables, Strings, UserStrings, Guids, Blobs}

-- a stream header: its own offset in the root; its stream's offset in the root, size in bytes, and name (II.24.2.2)
pub record Header : Type 0 where
  pub place : ℕ
  pub offset : ℕ
  pub size : ℕ
  pub name : List ℕ

-- the names of the five streams (II.24.2.2)
abbrev pub stream_name : Kind → List ℕ
stream_name Tables = codes "#~"
stream_name Strings = codes "#Strings"
stream_name UserStrings = codes "#US"
stream_name Guids = codes "#GUID"
stream_name Blobs = codes "#Blob"

-- the first header with this name
abbrev pub named : List ℕ → List Header → Option Header
named name headers = find (λ header. bytes_eq header.name name) headers

-- a root that was read: its bytes, its version and its stream headers
pub record RootRead : Type 0 where
  pub bytes : List ℕ
  pub version : List ℕ
  pub headers : List Header

-- the start and the end of a stream, as offsets in the root
abbrev pub range_of : RootRead → Kind → Option (ℕ × ℕ)
range_of root kind = option_map (λ header. (header.offset, header.offset + header.size)) (named (stream_name kind) root.headers)

-- the bytes of a stream
abbrev pub stream_of : RootRead → Kind → Option (List ℕ)
stream_of root kind = option_map (λ header. part root.bytes header.offset header.size) (named (stream_name kind) root.headers)
