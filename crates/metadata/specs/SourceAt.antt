-- The values that are read from the input and their offsets in it, whether or not the input follows the rules.
use Rattle.std.specs.Prelude.{ℕ, ◌+◌, List, unwrap_or}
use Rattle.std.specs.Option.{option_map}
use Rattle.root.specs.declared.kind.Kind.TheVariants.{Tables}
use Rattle.root.specs.Fields.{root_read}
use Rattle.root.specs.Streams.{range_of}
use Rattle.table_schema.specs.declared.table.TableId.{TableId}
use Rattle.schema.specs.Header.{sizes_of}
use Rattle.schema.specs.Offsets.{cell_start}
use Rattle.schema.specs.Cells.{numbers_at}
use Rattle.metadata.specs.Source.{Source}
use Rattle.metadata.specs.Streams.{stream_in, source_in}

-- the numbers and heaps that cells are read from, and the offset of the table stream in the input
pub record SourceAt : Type 0 where
  pub source : Source
  pub offset : ℕ

-- the offset of a cell in the input
unfoldable pub cell_offset : SourceAt → TableId → ℕ → ℕ → ℕ
cell_offset here table row column = here.offset + cell_start here.source.sizes table row column

-- the table stream of a root
abbrev pub tables_in : List ℕ → List ℕ
tables_in root = stream_in root (root_read root).headers Tables

-- its offset in the root
abbrev pub tables_offset : List ℕ → ℕ
tables_offset root = unwrap_or (option_map (λ offset. offset.0) (range_of (root_read root) Tables)) 0

-- the numbers and heaps that the cells of a root are read from
abbrev pub source_of : List ℕ → Source
source_of root =
    source_in root (root_read root).headers (sizes_of (tables_in root)) (numbers_at (tables_in root) (sizes_of (tables_in root)))

-- the same, if the root is at offset `offset` of the input
abbrev pub source_at : ℕ → List ℕ → SourceAt
source_at offset root = record { source = source_of root; offset = offset + tables_offset root }
