-- The structures of a file that contain a byte, outermost first (ECMA-335 II.22 to II.25). A broken file has no model, so only
-- those of its layers are taken apart whose rules all hold.
use Rattle.std.specs.Prelude.{◌≡◌, ℕ, ◌+◌, ◌-◌, ◌≤◌, List, [], ◌∷◌, ◌++◌, ◌⊎◌, Option, None, Some}
use Rattle.packed.specs.declared.fault.Fault.{Fault}
use Rattle.cli_where.specs.Words.{AllHold, Rule, Tables, UserStrings, RootRead, TableId, cell_width, cell_start, Sizes, TableCell, Stream, Input, BareRoot, File}
use Rattle.pe.specs.Headers.{image_of}
use Rattle.pe.specs.Image.{Image}
use Rattle.pe.specs.Rules.{rules_of_image}
use Rattle.cli_header.specs.Rules.{rules_of_cli_header}
use Rattle.cli_header.specs.Said.{header_of}
use Rattle.root.specs.Fields.{root_read}
use Rattle.root.specs.Rules.{rules_of_root}
use Rattle.schema.specs.Header.{sizes_of}
use Rattle.schema.specs.LocatedCells.{HasCell}
use Rattle.schema.specs.Rules.{rules_of_stream}
use Rattle.metadata.specs.Streams.{root_in}
use Rattle.cli_regions.specs.Files.{cli_regions, image_regions}
use Rattle.cli_regions.specs.Headers.{root_regions, table_stream_regions}
use Rattle.cli_regions.specs.Regions.{Region, cell as is_cell, regions_at}
use Rattle.cli_where.specs.Entries.{AreEntriesAt, Heap, heap_at, heaps_at}
use Rattle.cli_where.specs.UserStrings.{AreUsersAt}
use Rattle.cli_where.specs.declared.walk.Reach.{Reach}
use Rattle.cli_where.specs.declared.walk.Reach.TheVariants.{Cells, Entries}

-- the cell of a table stream at this offset of the file contains the byte, or no cell contains it
abbrev pub IsCellAt : Sizes → ℕ → ℕ → Option TableCell → Type 0
IsCellAt sizes start offset None = (table : TableId) (row column : ℕ) → start ≤ offset → HasCell sizes table row column (offset - start) → ⊥
IsCellAt sizes start offset (Some cell) = (start ≤ offset) × HasCell sizes cell.table cell.row cell.column (offset - start)

-- a cell as a list of one structure, if there is one
abbrev pub cell_regions : Sizes → ℕ → Option TableCell → List Region
cell_regions sizes start None = []
cell_regions sizes start (Some cell) =
    record { start = start + cell_start sizes cell.table cell.row cell.column; size = cell_width sizes cell.table cell.column; what = is_cell cell } ∷ []

-- the cell that contains the byte; nothing if no cell contains it
abbrev pub AreCellsAt : Sizes → ℕ → ℕ → List Region → Type 0
AreCellsAt sizes start offset found = (cell : Option TableCell) × IsCellAt sizes start offset cell × (found ≡ cell_regions sizes start cell)

-- structures of one kind, and then those of another
abbrev pub Then : (ℕ → List Region → Type 0) → (ℕ → List Region → Type 0) → ℕ → List Region → Type 0
Then AreFirst AreLater offset found = (first : List Region) × AreFirst offset first × (later : List Region) × AreLater offset later × (found ≡ first ++ later)

-- those of a list that contain the byte
abbrev pub AreOf : List Region → ℕ → List Region → Type 0
AreOf regions offset found = found ≡ regions_at offset regions

-- those of a layer with these rules; none if a rule is broken
abbrev pub OfLayer : List (Rule Fault) → (ℕ → List Region → Type 0) → ℕ → List Region → Type 0
OfLayer rules AreFound offset found = ((¬ AllHold rules) × (found ≡ [])) ⊎ (AllHold rules × AreFound offset found)

-- the entries of the heaps of a root at an offset of the file, by the cells that name them, and its user strings
abbrev pub AreInHeaps : Reach → ℕ → RootRead → Stream → ℕ → List Region → Type 0
AreInHeaps Cells start root stream offset found = found ≡ []
AreInHeaps Entries start root stream offset found =
    Then (AreEntriesAt (heaps_at start root) stream.bytes stream.sizes) (AreUsersAt (heap_at start root UserStrings)) offset found

-- a table stream at an offset of the file: its fields and row counts, and the cell that contains the byte (II.24.2.6)
abbrev pub AreInTables : Heap → ℕ → List Region → Type 0
AreInTables tables = Then (AreOf (table_stream_regions tables.start tables.bytes)) (AreCellsAt (sizes_of tables.bytes) tables.start)

-- a table stream of a root at an offset of the file, and the heaps of the root
abbrev pub AreInStream : Reach → ℕ → RootRead → Heap → ℕ → List Region → Type 0
AreInStream reach start root tables =
    OfLayer (rules_of_stream tables.bytes)
    (Then (AreInTables tables) (AreInHeaps reach start root (record { bytes = tables.bytes; sizes = sizes_of tables.bytes })))

-- a metadata root at an offset of the file: its fields, stream headers and streams, and what is in them (II.24.2.1)
abbrev pub AreInRoot : Reach → ℕ → List ℕ → ℕ → List Region → Type 0
AreInRoot reach start root = OfLayer (rules_of_root root) (Then (AreOf (root_regions start root)) (AreInStream reach start (root_read root) (heap_at start (root_read root) Tables)))

-- the CLI header of an image and what it names, and its metadata root (II.25.3.3)
abbrev pub AreInImage : Reach → Image → ℕ → List Region → Type 0
AreInImage reach image =
    OfLayer (rules_of_cli_header image)
    (Then (AreOf (cli_regions image (header_of image))) (AreInRoot reach (header_of image).root.start (root_in image.bytes (header_of image))))

-- a file: its PE headers and sections, and its CLI header (II.25)
abbrev pub AreInFile : Reach → List ℕ → ℕ → List Region → Type 0
AreInFile reach file = OfLayer (rules_of_image file) (Then (AreOf (image_regions file)) (AreInImage reach (image_of file)))

-- the structures that contain the byte at an offset, outermost first
abbrev pub AreStructuresAt : Input → Reach → List ℕ → ℕ → List Region → Type 0
AreStructuresAt BareRoot reach bytes = AreInRoot reach 0 bytes
AreStructuresAt File reach bytes = AreInFile reach bytes
