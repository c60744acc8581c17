-- The numbers of all cells are those of the canonical root, if each is the next index of its heap.
use Rattle.cell_numbering.proofs.Prelude.{◌≡◌, ℕ, ◌+◌, ◌-◌, Bool, true, false, cond, List, [], ◌∷◌, ◌++◌, length, get_or, map, drop, Some, None, refl, sym, ap, ◌∙◌, append_assoc, append-nil, length-append, arith, slice_index, flat_map, AllByRecursion, fun_ext, drop_at, drop-drop, ext_get_or, get_or-drop, get_or-map, length-map, map-append, flat_map-append, All-from_get_or, recursion_from_All, Column, ColumnKind, TableId, Module, tables, columns_of, is_padding, indexes_from, cell_columns, text_index, blob_index, guid_index, Cell, Number, Text, Bytes, Guid, Ref, Start, Sig, Metadata, rows_of, IsValid, Pools, pools_of, texts_of, blobs_of, cell_number, with_next, numbers_of, table_numbers, numbers, flat, AreIndexes, all_cells, guid_of, SoFar, none_numbered, with_number, with_cell, with_next_cell, with_row, with_rows, with_tables}
use Rattle.cell_numbering.specs.declared.numbers_so_far.Indexes.{Indexes}
use Rattle.table_schema.proofs.TableFacts.{table_index_at}
use Rattle.std.proofs.lemmas.List.Folds.{flat_map-map}

-- ---- the next indexes of one heap

-- the indexes from this one on begin with those of the values
abbrev pub AreNext : {X : Type 0} → (X → ℕ) → List ℕ → ℕ → List X → Type 0
AreNext number indexes offset values = (remainder : List ℕ) × (drop offset indexes ≡ map number values ++ remainder)

module _ {X : Type 0} (number : X → ℕ) (indexes : List ℕ) (offset : ℕ) where
  next_index : (value : X) → AreNext number indexes offset (value ∷ []) → slice_index indexes offset ≡ number value
  next_index value next =
      let same : offset ≡ offset + 0 = omega arith in
      ap (slice_index indexes) same ∙ sym (get_or-drop offset indexes 0 0) ∙ ap (λ (list : List ℕ). get_or list 0 0) next.1

  next_both : (here later : List X) (remainder : List ℕ) → drop offset indexes ≡ map number (here ++ later) ++ remainder
      → drop offset indexes ≡ map number here ++ (map number later ++ remainder)
  next_both here later remainder next =
      next ∙ ap (λ (list : List ℕ). list ++ remainder) (map-append number here later) ∙ append_assoc (map number here) (map number later) remainder

  next_first : (all here later : List X) → all ≡ here ++ later → AreNext number indexes offset all → AreNext number indexes offset here
  next_first all here later split next =
      (map number later ++ next.0, next_both here later next.0 (next.1 ∙ ap (λ list. map number list ++ next.0) split))

  next_later : (after : ℕ) (all here later : List X) → all ≡ here ++ later → after ≡ offset + length here → AreNext number indexes offset all
      → AreNext number indexes after later
  next_later after all here later split at next = (
    next.0,
    ap (λ (n : ℕ). drop n indexes) at ∙ sym (drop-drop (length here) offset indexes)
        ∙ ap (λ (list : List ℕ). drop (length here) list) (next_both here later next.0 (next.1 ∙ ap (λ list. map number list ++ next.0) split))
        ∙ drop_at (map number here) (map number later ++ next.0) (length here) (length-map here number),
  )

-- ---- the numbers of cells

abbrev pub table_flat : Pools → Metadata → TableId → List ℕ
table_flat pools model table = flat_map (numbers_of pools (columns_of table)) (rows_of model table)

abbrev pub AreLong : ℕ → List (List Cell) → Type 0
AreLong count rows = AllByRecursion (λ (cells : List Cell). length cells ≡ count) rows

-- the cells of tables, table by table
abbrev pub cells_in : Metadata → List TableId → List Cell
cells_in model listed = flat_map (λ table. flat_map (λ row. row) (rows_of model table)) listed

-- the second state has these numbers more, which are those of these cells
pub record Adds (before after : SoFar) (cells : List Cell) (more : List ℕ) : Type 0 where
  pub texts_are : after.texts ≡ before.texts + length (flat_map texts_of cells)
  pub guids_are : after.guids ≡ before.guids + length (flat_map guid_of cells)
  pub blobs_are : after.blobs ≡ before.blobs + length (flat_map blobs_of cells)
  pub numbers_are : after.numbers ≡ before.numbers ++ more

length_flat : {X : Type 0} (f : Cell → List X) (first second : List Cell) → length (flat_map f (first ++ second)) ≡ length (flat_map f first) + length (flat_map f second)
length_flat f first second = ap length (flat_map-append f first second) ∙ length-append (flat_map f first) (flat_map f second)

adds_then : {before middle after : SoFar} {cells others : List Cell} {numbers more : List ℕ} → Adds before middle cells numbers → Adds middle after others more
    → Adds before after (cells ++ others) (numbers ++ more)
adds_then {before} {middle} {after} {cells} {others} {numbers} {more} a b = record {
  texts_are = omega (arith, a.texts_are, b.texts_are, length_flat texts_of cells others);
  guids_are = omega (arith, a.guids_are, b.guids_are, length_flat guid_of cells others);
  blobs_are = omega (arith, a.blobs_are, b.blobs_are, length_flat blobs_of cells others);
  numbers_are = b.numbers_are ∙ ap (λ list. list ++ more) a.numbers_are ∙ append_assoc before.numbers numbers more;
}

adds_none : (so_far : SoFar) → Adds so_far so_far [] []
adds_none so_far = record { texts_are = omega arith; guids_are = omega arith; blobs_are = omega arith; numbers_are = sym (append-nil so_far.numbers) }

adds_padding : (so_far : SoFar) → Adds so_far (with_number so_far 0) [] (0 ∷ [])
adds_padding so_far = record { texts_are = omega arith; guids_are = omega arith; blobs_are = omega arith; numbers_are = refl }

module _ (pools : Pools) (indexes : Indexes) where
  -- the next indexes of each heap are those of the cells
  pub record AreAllNext (so_far : SoFar) (cells : List Cell) : Type 0 where
    pub texts : AreNext (text_index pools.texts) indexes.texts.now so_far.texts (flat_map texts_of cells)
    pub guids : AreNext (guid_index pools.guids) indexes.guids.now so_far.guids (flat_map guid_of cells)
    pub blobs : AreNext (blob_index pools.blobs) indexes.blobs.now so_far.blobs (flat_map blobs_of cells)

  all_first : (so_far : SoFar) (here later : List Cell) → AreAllNext so_far (here ++ later) → AreAllNext so_far here
  all_first so_far here later next = record {
    texts = next_first (text_index pools.texts) indexes.texts.now so_far.texts (flat_map texts_of (here ++ later)) (flat_map texts_of here) (flat_map texts_of later) (flat_map-append texts_of here later) next.texts;
    guids = next_first (guid_index pools.guids) indexes.guids.now so_far.guids (flat_map guid_of (here ++ later)) (flat_map guid_of here) (flat_map guid_of later) (flat_map-append guid_of here later) next.guids;
    blobs = next_first (blob_index pools.blobs) indexes.blobs.now so_far.blobs (flat_map blobs_of (here ++ later)) (flat_map blobs_of here) (flat_map blobs_of later) (flat_map-append blobs_of here later) next.blobs;
  }

  all_later : (so_far after : SoFar) (here later : List Cell) (more : List ℕ) → Adds so_far after here more → AreAllNext so_far (here ++ later) → AreAllNext after later
  all_later so_far after here later more adds next = record {
    texts = next_later (text_index pools.texts) indexes.texts.now so_far.texts after.texts (flat_map texts_of (here ++ later)) (flat_map texts_of here) (flat_map texts_of later) (flat_map-append texts_of here later) adds.texts_are next.texts;
    guids = next_later (guid_index pools.guids) indexes.guids.now so_far.guids after.guids (flat_map guid_of (here ++ later)) (flat_map guid_of here) (flat_map guid_of later) (flat_map-append guid_of here later) adds.guids_are next.guids;
    blobs = next_later (blob_index pools.blobs) indexes.blobs.now so_far.blobs after.blobs (flat_map blobs_of (here ++ later)) (flat_map blobs_of here) (flat_map blobs_of later) (flat_map-append blobs_of here later) adds.blobs_are next.blobs;
  }

  adds_cell : (k : ColumnKind) (cell : Cell) (so_far : SoFar) → AreAllNext so_far (cell ∷ [])
      → Adds so_far (with_cell indexes k cell so_far) (cell ∷ []) (cell_number pools k cell ∷ [])
  adds_cell k (Number number) so_far next = record { texts_are = omega arith; guids_are = omega arith; blobs_are = omega arith; numbers_are = refl }
  adds_cell k (Text text) so_far next = record {
    texts_are = omega arith;
    guids_are = omega arith;
    blobs_are = omega arith;
    numbers_are = ap (λ n. so_far.numbers ++ n ∷ []) (next_index (text_index pools.texts) indexes.texts.now so_far.texts text next.texts);
  }
  adds_cell k (Bytes blob) so_far next = record {
    texts_are = omega arith;
    guids_are = omega arith;
    blobs_are = omega arith;
    numbers_are = ap (λ n. so_far.numbers ++ n ∷ []) (next_index (blob_index pools.blobs) indexes.blobs.now so_far.blobs blob next.blobs);
  }
  adds_cell k (Guid guid) so_far next = record {
    texts_are = omega arith;
    guids_are = omega arith;
    blobs_are = omega arith;
    numbers_are = ap (λ n. so_far.numbers ++ n ∷ []) (next_index (guid_index pools.guids) indexes.guids.now so_far.guids guid next.guids);
  }
  adds_cell k (Ref None) so_far next = record { texts_are = omega arith; guids_are = omega arith; blobs_are = omega arith; numbers_are = refl }
  adds_cell k (Ref (Some token)) so_far next = record { texts_are = omega arith; guids_are = omega arith; blobs_are = omega arith; numbers_are = refl }
  adds_cell k (Start start) so_far next = record { texts_are = omega arith; guids_are = omega arith; blobs_are = omega arith; numbers_are = refl }
  adds_cell k (Sig signature) so_far next = record {
    texts_are = omega arith;
    guids_are = omega arith;
    blobs_are = omega arith;
    numbers_are = ap (λ n. so_far.numbers ++ n ∷ []) (next_index (blob_index pools.blobs) indexes.blobs.now so_far.blobs _ next.blobs);
  }

  adds_both : (so_far middle after : SoFar) (here later : List Cell) (numbers more : List ℕ) → (AreAllNext so_far here → Adds so_far middle here numbers)
      → (AreAllNext middle later → Adds middle after later more) → AreAllNext so_far (here ++ later) → Adds so_far after (here ++ later) (numbers ++ more)
  adds_both so_far middle after here later numbers more first second next =
      let adds = first (all_first so_far here later next) in
      adds_then adds (second (all_later so_far middle here later numbers adds next))

  adds_next : (padding : Bool) (k : ColumnKind) (remainder : List Cell → SoFar → SoFar) (tail : List Cell → List ℕ) (column : ℕ) (columns : List ℕ)
      → ((cells : List Cell) (so_far : SoFar) → length cells ≡ length columns → AreAllNext so_far cells → Adds so_far (remainder cells so_far) cells (tail cells))
      → (cells : List Cell) (so_far : SoFar) → length cells ≡ length (cond padding columns (column ∷ columns)) → AreAllNext so_far cells
      → Adds so_far (with_next_cell padding (with_cell indexes k) remainder cells so_far) cells (with_next padding (cell_number pools k) tail cells)
  adds_next true k remainder tail column columns each cells so_far long next =
      adds_both so_far (with_number so_far 0) (remainder cells (with_number so_far 0)) [] cells (0 ∷ []) (tail cells) (λ none. adds_padding so_far) (λ later. each cells (with_number so_far 0) long later) next
  adds_next false k remainder tail column columns each [] so_far long next = absurd (omega (arith, long))
  adds_next false k remainder tail column columns each (cell ∷ cells) so_far long next =
      let after = with_cell indexes k cell so_far in
      adds_both so_far after (remainder cells after) (cell ∷ []) cells (cell_number pools k cell ∷ []) (tail cells) (λ here. adds_cell k cell so_far here) (λ later. each cells after (omega (arith, long)) later) next

  adds_row : (columns : List Column) (index : ℕ) (cells : List Cell) (so_far : SoFar) → length cells ≡ length (indexes_from index columns) → AreAllNext so_far cells
      → Adds so_far (with_row indexes columns cells so_far) cells (numbers_of pools columns cells)
  adds_row [] index [] so_far long next = adds_none so_far
  adds_row [] index (cell ∷ cells) so_far long next = absurd (omega (arith, long))
  adds_row (column ∷ columns) index cells so_far long next =
      adds_next (is_padding column.kind) column.kind (with_row indexes columns) (numbers_of pools columns) index (indexes_from (index + 1) columns) (adds_row columns (index + 1)) cells so_far long next

  adds_rows : (columns : List Column) (rows : List (List Cell)) (so_far : SoFar) → AreLong (length (indexes_from 0 columns)) rows
      → AreAllNext so_far (flat_map (λ row. row) rows)
      → Adds so_far (with_rows indexes columns rows so_far) (flat_map (λ row. row) rows) (flat_map (numbers_of pools columns) rows)
  adds_rows columns [] so_far long next = adds_none so_far
  adds_rows columns (row ∷ rows) so_far long next =
      let after = with_row indexes columns row so_far in
      adds_both so_far after (with_rows indexes columns rows after) row (flat_map (λ row. row) rows) (numbers_of pools columns row) (flat_map (numbers_of pools columns) rows) (λ here. adds_row columns 0 row so_far long.0 here) (λ later. adds_rows columns rows after long.1 later) next

  adds_tables : (model : Metadata) (listed : List TableId) (so_far : SoFar)
      → ((table : TableId) → AreLong (length (indexes_from 0 (columns_of table))) (rows_of model table)) → AreAllNext so_far (cells_in model listed)
      → Adds so_far (with_tables indexes model listed so_far) (cells_in model listed) (flat_map (table_flat pools model) listed)
  adds_tables model [] so_far long next = adds_none so_far
  adds_tables model (table ∷ listed) so_far long next =
      let rows = rows_of model table in
      let after = with_rows indexes (columns_of table) rows so_far in
      adds_both so_far after (with_tables indexes model listed after) (flat_map (λ row. row) rows) (cells_in model listed) (table_flat pools model table) (flat_map (table_flat pools model) listed)
      (λ here. adds_rows (columns_of table) rows so_far (long table) here) (λ later. adds_tables model listed after long later) next

-- ---- the whole

pub rows_are : length tables ≡ 38 → (model : Metadata) → length model.tables ≡ 38 → map (rows_of model) tables ≡ model.tables
rows_are count model long =
    let same = length-map tables (rows_of model) in
    ext_get_or [] (map (rows_of model) tables) model.tables (omega (arith, same, count, long)) (λ k below.
    get_or-map (rows_of model) tables k Module [] (omega (arith, same, below))
    ∙ ap (λ (i : ℕ). get_or model.tables i []) (table_index_at k (omega (arith, same, count, below))))

cells_by_table : length tables ≡ 38 → (model : Metadata) → length model.tables ≡ 38 → cells_in model tables ≡ all_cells model
cells_by_table count model long =
    sym (flat_map-map (flat_map (λ (row : List Cell). row)) (rows_of model) tables) ∙ ap (flat_map (flat_map (λ (row : List Cell). row))) (rows_are count model long)

flat_numbers : (model : Metadata) → flat_map (table_flat (pools_of model) model) tables ≡ flat (numbers model)
unfolding numbers
flat_numbers model =
    let each : table_flat (pools_of model) model ≡ (λ (table : TableId). flat_map (λ (row : List ℕ). row) (table_numbers model table)) =
    fun_ext (λ table. sym (flat_map-map (λ (row : List ℕ). row) (numbers_of (pools_of model) (columns_of table)) (rows_of model table))) in
    ap (λ f. flat_map f tables) each ∙ sym (flat_map-map (flat_map (λ (row : List ℕ). row)) (table_numbers model) tables)

long_rows : (model : Metadata) → IsValid model → (table : TableId) → AreLong (length (indexes_from 0 (columns_of table))) (rows_of model table)
unfolding cell_columns
long_rows model valid table =
    let rows = rows_of model table in
    let is_long = λ (cells : List Cell). length cells ≡ length (indexes_from 0 (columns_of table)) in
    recursion_from_All is_long rows (All-from_get_or is_long rows [] (λ k below.
    let back : k + 1 - 1 ≡ k = omega arith in
    ap (λ (i : ℕ). length (get_or rows i [])) (sym back) ∙ valid.long table (k + 1) (omega arith, omega (arith, below))))

all_next : {X : Type 0} (number : X → ℕ) (indexes : List ℕ) (values more : List X) → values ≡ more → indexes ≡ map number more → AreNext number indexes 0 values
all_next number indexes values more same is = ([], is ∙ ap (map number) (sym same) ∙ sym (append-nil (map number values)))

pub numbered_is : length tables ≡ 38 → (model : Metadata) → IsValid model → (indexes : Indexes) → AreIndexes model indexes
    → (with_tables indexes model tables none_numbered).numbers ≡ flat (numbers model)
numbered_is count model valid indexes are =
    let pools = pools_of model in
    let same = cells_by_table count model valid.tables in
    let next : AreAllNext pools indexes none_numbered (cells_in model tables) = record {
      texts = all_next (text_index pools.texts) indexes.texts.now (flat_map texts_of (cells_in model tables)) (flat_map texts_of (all_cells model)) (ap (flat_map texts_of) same) are.texts;
      guids = all_next (guid_index pools.guids) indexes.guids.now (flat_map guid_of (cells_in model tables)) (flat_map guid_of (all_cells model)) (ap (flat_map guid_of) same) are.guids;
      blobs = all_next (blob_index pools.blobs) indexes.blobs.now (flat_map blobs_of (cells_in model tables)) (flat_map blobs_of (all_cells model)) (ap (flat_map blobs_of) same) are.blobs;
    } in
    (adds_tables pools indexes model tables none_numbered (long_rows model valid) next).numbers_are ∙ flat_numbers model
