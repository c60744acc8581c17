-- The bytes of a whole root, by its parts (ECMA-335 II.24.2.1 and II.24.2.2).
use Rattle.std.specs.Prelude.{◌≡◌, ℕ, ◌+◌, ◌^◌, ◌<◌, ◌≤◌, List, ◌++◌, length, sum_by, flat_map}
use Rattle.root.specs.declared.kind.Kind.{Kind}
use Rattle.root.specs.declared.kind.Kind.TheVariants.{Tables, Strings, UserStrings, Guids, Blobs}
use Rattle.table_schema.specs.Tables.{tables}
use Rattle.schema.specs.LaidOut.{tables_bytes}
use Rattle.heap_entries.specs.Padding.{zero_padded}
use Rattle.heap_pools.specs.TextHeap.{text_heap}
use Rattle.heap_pools.specs.BlobHeap.{blob_heap}
use Rattle.heap_pools.specs.GuidHeap.{guid_heap}
use Rattle.metadata.specs.Metadata.{Metadata}
use Rattle.root_writer.specs.Pools.{pools_of}
use Rattle.root_writer.specs.TableStream.{table_stream}
use Rattle.root_writer.specs.Canonical.{stream}
use Rattle.root_writer.specs.Written.{padding}
use Rattle.root_writer.specs.Heading.{size_of, held, heading, heading_size}
use Rattle.root_writer.specs.TableHeader.{table_header}
use Rattle.root_writer.specs.Flat.{cells_of, tables_in}
use Rattle.root_writer.specs.declared.root_parts.RootParts.{RootParts}

-- the table stream: its header, the rows of all tables, and the padding (II.24.2.6)
abbrev pub table_bytes : RootParts → List ℕ
table_bytes parts =
    table_header parts.heap_sizes parts.sorted parts.layout.now
    ++ tables_bytes parts.layout.now tables (tables_in parts.layout.now tables parts.numbers.now)
    ++ padding parts.tables_len

-- the bytes of each stream
abbrev pub content : RootParts → Kind → List ℕ
content parts Tables = table_bytes parts
content parts Strings = zero_padded parts.strings.now
content parts UserStrings = zero_padded parts.user_strings.now
content parts Guids = zero_padded parts.guids.now
content parts Blobs = zero_padded parts.blobs.now

-- the kinds of the streams that have bytes
abbrev pub kinds_of : RootParts → List Kind
kinds_of parts = held (size_of parts.sizes)

-- the headers, and then the streams
unfoldable pub root_bytes : RootParts → List ℕ
root_bytes parts = heading parts.version.now (size_of parts.sizes) (kinds_of parts) ++ flat_map (content parts) (kinds_of parts)

-- the version is short enough, offsets fit four bytes, and there is a number for each column of each row
pub record CanBePut (parts : RootParts) : Type 0 where
  pub version : length parts.version.now ≤ 254
  pub low : heading_size parts.version.now (size_of parts.sizes) (kinds_of parts) + sum_by (size_of parts.sizes) (kinds_of parts) < 2 ^ 32
  pub many : length parts.numbers.now ≡ sum_by (cells_of parts.layout.now) tables

-- the parts are those of a model's canonical root
pub record ArePartsOf (model : Metadata) (parts : RootParts) : Type 0 where
  pub version : parts.version.now ≡ model.version
  pub sizes : (kind : Kind) → size_of parts.sizes kind ≡ length (stream model kind)
  pub tables : table_bytes parts ≡ table_stream model
  pub strings : parts.strings.now ≡ text_heap (pools_of model).texts
  pub user_strings : zero_padded parts.user_strings.now ≡ model.user
  pub guids : parts.guids.now ≡ guid_heap (pools_of model).guids
  pub blobs : parts.blobs.now ≡ blob_heap (pools_of model).blobs
