-- A root has a model if and only if all rules for it hold. It has at most one.
use Rattle.std.proofs.Common.{◌≡◌, ℕ, ◌+◌, ◌-◌, ◌^◌, ◌<◌, ◌≤◌, List, [], ◌++◌, length, drop, slice_index, slice_index_or, Option, Some, None, unwrap_or, refl, sym, ◌∙◌, ap, subst, arith, inl, inr}
use Rattle.metadata.proofs.Prelude.{option_map, cases_lt, get_or-take, get_or-drop, get_or_past, length-take, AllHold, rebased, all_append, all_prefix, all_back, all_rebased, all_lowered, Tables, UserStrings, Header, RootRead, named, stream_name, zero_padded, TableId, table_index_of, tables, Sizes, IsLaidOut, IsTableStream, numbers_at, Cell, Number, Metadata, rows_of, Source, rows_in, stream_in, source_in, cell_count, IsCell, IsRow, IsTable, IsTableAt, AreTables, table_at, AreByKey, AreLinked, links_in, IsModel, SourceAt, tables_in, tables_offset, source_of, source_at, rules_of_cells, rules_of_rows, rules_of_signatures, rules_of_tables, rules_of_metadata}
use Rattle.packed.specs.Offsets.{part}
use Rattle.root.specs.declared.kind.Kind.{Kind}
use Rattle.root.specs.Fields.{root_read}
use Rattle.root.specs.Root.{IsRoot}
use Rattle.root.specs.Rules.{rules_of_root}
use Rattle.table_schema.proofs.TableFacts.{table_at_index, table_index_below}
use Rattle.schema.specs.Header.{sizes_of}
use Rattle.schema.specs.Rules.{rules_of_stream}
use Rattle.metadata.proofs.ItemLemmas.{items_length, item_at}
use Rattle.metadata.proofs.StandsLemmas.{AreOne}
use Rattle.metadata.proofs.TableLemmas.{tables_found, cells_met, signatures_met, tables_one}
use Rattle.metadata.proofs.RowRuleLemmas.{rows_found, rows_met}

-- what is known of roots and table streams
pub record AreRead : Type 0 where
  pub root_rules_hold : (root version : List ℕ) (headers : List Header) → length root ≤ 2 ^ 30 → IsRoot root version headers → AllHold (rules_of_root root)
  pub root_said : (root version : List ℕ) (headers : List Header) → length root ≤ 2 ^ 30 → IsRoot root version headers
      → root_read root ≡ record { bytes = root; version = version; headers = headers }
  pub root_found : (root : List ℕ) → AllHold (rules_of_root root)
      → (length root ≤ 2 ^ 30) × IsRoot root (root_read root).version (root_read root).headers
  pub stream_rules_hold : (stream : List ℕ) (sizes : Sizes) (numbers : List (List (List ℕ))) → IsLaidOut stream sizes numbers → AllHold (rules_of_stream stream)
  pub stream_said : (stream : List ℕ) (sizes : Sizes) (numbers : List (List (List ℕ))) → IsLaidOut stream sizes numbers → sizes ≡ sizes_of stream
  pub stream_found : (stream : List ℕ) → ((k : ℕ) → slice_index stream k < 2 ^ 8) → AllHold (rules_of_stream stream) → IsTableStream stream (sizes_of stream)
  pub numbers_are : (stream : List ℕ) (sizes : Sizes) (numbers : List (List (List ℕ))) → IsLaidOut stream sizes numbers → numbers ≡ numbers_at stream sizes

-- ---- the tables of a root

pub rules_met : (here : SourceAt) (all : List (List (List Cell))) → AreTables here.source all → AreByKey here.source
    → AreLinked (links_in here.source) → AllHold (rules_of_tables here)
unfolding rules_of_tables
rules_met here all cells ordered linked =
    all_append (rules_of_cells here) (rules_of_rows here ++ rules_of_signatures here) (cells_met here all cells)
    (all_append (rules_of_rows here) (rules_of_signatures here) (rows_met here ordered linked) (signatures_met here all cells))

-- all rules for a source
pub record Fits (source : Source) : Type 0 where
  pub all : List (List (List Cell))
  pub cells : AreTables source all
  pub ordered : AreByKey source
  pub linked : AreLinked (links_in source)

pub rules_found : (here : SourceAt) → AllHold (rules_of_tables here) → Fits here.source
unfolding rules_of_tables
rules_found here holds =
    let rows = rules_of_rows here in
    let signatures = rules_of_signatures here in
    let behind = all_back (rules_of_cells here) (rows ++ signatures) holds in
    let cells = tables_found here (all_prefix (rules_of_cells here) (rows ++ signatures) holds) (all_back rows signatures behind) in
    let found = rows_found here (all_prefix rows signatures behind) in
    record { all = cells.0; cells = cells.1; ordered = found.0; linked = found.1 }

-- ---- what a model is read from

module _ (read : AreRead) (root : List ℕ) (model : Metadata) (is : IsModel root model) where
  headers_same : is.headers ≡ (root_read root).headers
  headers_same = ap (λ (d : RootRead). d.headers) (sym (read.root_said root model.version is.headers is.small is.is_root))

  pub version_read : model.version ≡ (root_read root).version
  version_read = ap (λ (d : RootRead). d.version) (sym (read.root_said root model.version is.headers is.small is.is_root))

  pub user_read : model.user ≡ zero_padded (stream_in root (root_read root).headers UserStrings)
  user_read = is.user ∙ ap (λ (h : List Header). zero_padded (stream_in root h UserStrings)) headers_same

  source_read : source_in root is.headers is.sizes is.numbers ≡ source_of root
  source_read =
      let stream = stream_in root is.headers Tables in
      let said = λ (h : List Header). stream_in root h Tables in
      ap (λ (n : List (List (List ℕ))). source_in root is.headers is.sizes n) (read.numbers_are stream is.sizes is.numbers is.laid_out)
      ∙ ap (λ (s : Sizes). source_in root is.headers s (numbers_at stream s)) (read.stream_said stream is.sizes is.numbers is.laid_out)
      ∙ ap (λ (h : List Header). source_in root h (sizes_of (said h)) (numbers_at (said h) (sizes_of (said h)))) headers_same

  pub stream_read : IsTableStream (tables_in root) (source_of root).sizes
  stream_read =
      let stream = stream_in root is.headers Tables in
      let said = subst (λ (s : Sizes). IsLaidOut stream s is.numbers) (read.stream_said stream is.sizes is.numbers is.laid_out) is.laid_out in
      (is.numbers, subst (λ (h : List Header). IsLaidOut (stream_in root h Tables) (sizes_of (stream_in root h Tables)) is.numbers) headers_same said)

  pub cells_read : AreTables (source_of root) model.tables
  cells_read = subst (λ (s : Source). AreTables s model.tables) source_read is.cells

  pub ordered_read : AreByKey (source_of root)
  ordered_read = subst AreByKey source_read is.ordered

  pub linked_read : AreLinked (links_in (source_of root))
  linked_read = subst (λ (s : Source). AreLinked (links_in s)) source_read is.linked

  pub model_met : (offset : ℕ) → AllHold (rules_of_metadata offset root)
  unfolding rules_of_metadata
  model_met offset =
      let header = rebased offset (rules_of_root root) in
      let stream = rebased (offset + tables_offset root) (rules_of_stream (tables_in root)) in
      let inside = rules_of_tables (source_at offset root) in
      let laid = stream_read in
      all_append header (stream ++ inside) (all_rebased offset (rules_of_root root) (read.root_rules_hold root model.version is.headers is.small is.is_root))
      (all_append stream inside
      (all_rebased (offset + tables_offset root) (rules_of_stream (tables_in root)) (read.stream_rules_hold (tables_in root) (source_of root).sizes laid.0 laid.1))
      (rules_met (source_at offset root) model.tables cells_read ordered_read linked_read))

  -- the rows of a table
  pub table_read : (table : TableId) → IsTable (source_of root) table (rows_of model table)
  unfolding IsTableAt
  table_read table =
      let rows = item_at (IsTableAt (source_of root)) 0 38 model.tables cells_read (table_index_of table) [] (table_index_below table) in
      let here : 0 + table_index_of table ≡ table_index_of table = omega arith in
      subst (λ (t : TableId). IsTable (source_of root) t (rows_of model table)) (ap table_at here ∙ table_at_index table) rows

pub tables_long : AreRead → (root : List ℕ) (model : Metadata) → IsModel root model → length model.tables ≡ 38
tables_long read root model is = items_length (IsTableAt (source_of root)) 0 38 model.tables (cells_read read root model is)

pub rows_count : (source : Source) (table : TableId) (rows : List (List Cell)) → IsTable source table rows → length rows ≡ rows_in source table
unfolding IsTable
rows_count source table rows is = items_length (IsRow source table) 1 (rows_in source table) rows is

pub rows_long : (source : Source) (table : TableId) (rows : List (List Cell)) → IsTable source table rows → (row : ℕ) → 1 ≤ row
    → row ≤ rows_in source table → length (slice_index_or rows (row - 1) []) ≡ cell_count table
unfolding IsTable IsRow
rows_long source table rows is row first last =
    let cells = slice_index_or rows (row - 1) [] in
    let there : 1 + (row - 1) ≡ row = omega arith in
    let row_stands = item_at (IsRow source table) 1 (rows_in source table) rows is (row - 1) [] (omega arith) in
    items_length (IsCell source table row) 0 (cell_count table) cells (subst (λ (r : ℕ). IsRow source table r cells) there row_stands)

pub rows_cell : (source : Source) (table : TableId) (rows : List (List Cell)) → IsTable source table rows → (row cell_index : ℕ) → 1 ≤ row
    → row ≤ rows_in source table → cell_index < cell_count table
    → IsCell source table row cell_index (slice_index_or (slice_index_or rows (row - 1) []) cell_index (Number 0))
unfolding IsTable IsRow
rows_cell source table rows is row cell_index first last within =
    let cells = slice_index_or rows (row - 1) [] in
    let there : 1 + (row - 1) ≡ row = omega arith in
    let here : 0 + cell_index ≡ cell_index = omega arith in
    let row_stands = item_at (IsRow source table) 1 (rows_in source table) rows is (row - 1) [] (omega arith) in
    let row_is = subst (λ (r : ℕ). IsRow source table r cells) there row_stands in
    let cell_stands = item_at (IsCell source table row) 0 (cell_count table) cells row_is cell_index (Number 0) within in
    subst (λ (p : ℕ). IsCell source table row p (slice_index_or cells cell_index (Number 0))) here cell_stands

-- ---- bytes

pub part_bytes : (bytes : List ℕ) (offset count : ℕ) → ((k : ℕ) → slice_index bytes k < 2 ^ 8) → (k : ℕ) → slice_index (part bytes offset count) k < 2 ^ 8
part_bytes bytes offset count each k =
    elim (cases_lt k count) [
      | inl below ↦ let here = each (offset + k) in rw (get_or-take count (drop offset bytes) k 0 below, get_or-drop offset bytes k 0) here
      | inr past ↦ rw (get_or_past (part bytes offset count) k 0 (omega (arith, length-take count (drop offset bytes)))) (omega arith)
    ]

option_bytes : (bytes : List ℕ) → ((k : ℕ) → slice_index bytes k < 2 ^ 8) → (header : Option Header) (k : ℕ)
    → slice_index (unwrap_or (option_map (λ (h : Header). part bytes h.offset h.size) header) []) k < 2 ^ 8
option_bytes bytes each None k = omega arith
option_bytes bytes each (Some header) k = part_bytes bytes header.offset header.size each k

pub stream_bytes : (root : List ℕ) (headers : List Header) (kind : Kind) → ((k : ℕ) → slice_index root k < 2 ^ 8) → (k : ℕ)
    → slice_index (stream_in root headers kind) k < 2 ^ 8
stream_bytes root headers kind each k = option_bytes root each (named (stream_name kind) headers) k

-- ---- the whole

pub model_found : AreRead → (offset : ℕ) (root : List ℕ) → ((k : ℕ) → slice_index root k < 2 ^ 8) → AllHold (rules_of_metadata offset root)
    → (model : Metadata) × IsModel root model
unfolding rules_of_metadata
model_found read offset root each holds =
    let header = rebased offset (rules_of_root root) in
    let stream = rebased (offset + tables_offset root) (rules_of_stream (tables_in root)) in
    let inside = rules_of_tables (source_at offset root) in
    let headers = (root_read root).headers in
    let is = read.root_found root (all_lowered offset (rules_of_root root) (all_prefix header (stream ++ inside) holds)) in
    let tail = all_back header (stream ++ inside) holds in
    let stream_holds = all_lowered (offset + tables_offset root) (rules_of_stream (tables_in root)) (all_prefix stream inside tail) in
    let laid = read.stream_found (tables_in root) (stream_bytes root headers Tables each) stream_holds in
    let sizes = sizes_of (tables_in root) in
    let fits = rules_found (source_at offset root) (all_back stream inside tail) in (
      record { version = (root_read root).version; user = zero_padded (stream_in root headers UserStrings); tables = fits.all },
      record {
        small = is.0;
        headers = headers;
        is_root = is.1;
        sizes = sizes;
        numbers = numbers_at (tables_in root) sizes;
        laid_out = subst (λ (n : List (List (List ℕ))). IsLaidOut (tables_in root) sizes n) (read.numbers_are (tables_in root) sizes laid.0 laid.1) laid.1;
        cells = fits.cells;
        ordered = fits.ordered;
        linked = fits.linked;
        user = refl;
      },
    )

pub model_one : AreRead → AreOne → (root : List ℕ) (model other : Metadata) → IsModel root model → IsModel root other → model ≡ other
model_one read one root model other is also =
    let versions = version_read read root model is ∙ sym (version_read read root other also) in
    let users = user_read read root model is ∙ sym (user_read read root other also) in
    let same = tables_one one (source_of root) model.tables other.tables (cells_read read root model is) (cells_read read root other also) in
    λ i. record { version = versions i; user = users i; tables = same i }
