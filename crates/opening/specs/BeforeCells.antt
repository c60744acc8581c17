-- The rules that come before those for cells, and what is read of bytes that follow them (II.22 and II.24.2).
use Rattle.std.specs.Prelude.{ℕ, ◌+◌, List, ◌++◌}
use Rattle.packed.specs.declared.fault.Fault.{Fault}
use Rattle.packed.specs.Rule.{Rule, rebased}
use Rattle.pe.specs.Headers.{image_of}
use Rattle.cli_header.specs.Said.{header_of}
use Rattle.root.specs.Rules.{rules_of_root}
use Rattle.schema.specs.Rules.{rules_of_stream}
use Rattle.metadata.specs.Streams.{root_in}
use Rattle.metadata.specs.SourceAt.{SourceAt, tables_in, tables_offset, source_at}
use Rattle.opening.specs.Heads.{rules_of_heads}

-- the rules for the table stream of a root at offset `offset` of the input
abbrev pub rules_of_tables_in : ℕ → List ℕ → List (Rule Fault)
rules_of_tables_in offset root = rebased (offset + tables_offset root) (rules_of_stream (tables_in root))

-- the rules for a root before those for cells: for its directory and its table stream
unfoldable pub rules_before_cells : ℕ → List ℕ → List (Rule Fault)
rules_before_cells offset root = rebased offset (rules_of_root root) ++ rules_of_tables_in offset root

-- the metadata root of a file, and its offset
abbrev pub root_of_file : List ℕ → List ℕ
root_of_file file = root_in file (header_of (image_of file))

abbrev pub root_start : List ℕ → ℕ
root_start file = (header_of (image_of file)).root.start

-- the rules for a file before those for cells: for its headers, the directory of its root, and its table stream
unfoldable pub rules_before_cells_of_file : List ℕ → List (Rule Fault)
rules_before_cells_of_file file = rules_of_heads file ++ rules_of_tables_in (root_start file) (root_of_file file)

-- the numbers and heaps that the cells of a file are read from
abbrev pub source_of_file : List ℕ → SourceAt
source_of_file file = source_at (root_start file) (root_of_file file)
