-- The root of a file, and the tables and heaps of a root (ECMA-335 II.24.2.2 and II.25.3.3).
use Rattle.std.specs.Prelude.{ℕ, ◌-◌, List, [], unwrap_or}
use Rattle.packed.specs.Offsets.{part}
use Rattle.root.specs.declared.kind.Kind.{Kind}
use Rattle.root.specs.declared.kind.Kind.TheVariants.{Strings, Guids, Blobs}
use Rattle.root.specs.Streams.{Header, stream_of}
use Rattle.cli_header.specs.declared.header.CliHeader.{CliHeader}
use Rattle.schema.specs.Sizes.{Sizes}
use Rattle.metadata.specs.Source.{Source}

-- the bytes of a stream; none if no header names it
abbrev pub stream_in : List ℕ → List Header → Kind → List ℕ
stream_in root headers kind = unwrap_or (stream_of (record { bytes = root; version = []; headers = headers }) kind) []

-- what the cells of a root are read from, by its stream headers and the numbers of its tables
abbrev pub source_in : List ℕ → List Header → Sizes → List (List (List ℕ)) → Source
source_in root headers sizes numbers = record {
  sizes = sizes;
  numbers = numbers;
  texts = stream_in root headers Strings;
  blobs = stream_in root headers Blobs;
  guids = stream_in root headers Guids;
}

-- the root that a CLI header refers to
abbrev pub root_in : List ℕ → CliHeader → List ℕ
root_in file header = part file header.root.start (header.root.«end» - header.root.start)
