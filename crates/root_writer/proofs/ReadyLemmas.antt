-- The cells of a valid model can be numbered.
use Rattle.root_writer.proofs.Prelude.{◌≡◌, ℕ, ◌+◌, ◌-◌, ◌<◌, ◌≤◌, Bool, List, [], length, get_or, Some, sym, ap, subst, ◌∙◌, arith, All-from_get_or, All-from_recursion, recursion_from_All, TableId, ColumnKind, Module, tables, cell_count, HasNoNul, Body, Cell, Number, Text, Bytes, Ref, Sig, HasRow, Metadata, rows_of, count_in, cell_in, IsValid, IsValidCell, kind_at, nullable_at, used, texts_of}
use Rattle.std.specs.Prelude.{flat_map}
use Rattle.std.specs.List.{All, AllByRecursion}
use Rattle.table_schema.specs.declared.column.ColumnKind.TheVariants as kind
use Rattle.root_writer.proofs.Lists.{all_flat_map}
use Rattle.table_schema.proofs.TableFacts.{table_index_at}
use Rattle.root_writer.specs.Numbered.{CanBeNumbered}

-- ---- cells

sig_ready : (model : Metadata) (k : ColumnKind) (nullable : Bool) (signature : Body) → IsValidCell model k nullable (Sig signature) → CanBeNumbered (Sig signature)
sig_ready model (kind.Signature column) nullable signature valid = valid.held.1.limit
sig_ready model _ nullable signature valid = absurd valid.of_kind

cell_ready : (model : Metadata) (k : ColumnKind) (nullable : Bool) (cell : Cell) → ((table : TableId) → count_in model table ≤ 0xFFFFFF)
    → IsValidCell model k nullable cell → CanBeNumbered cell
cell_ready model k nullable (Bytes blob) few valid = valid.storable
cell_ready model k nullable (Ref (Some token)) few valid = omega (arith, valid.refers.1, few token.table)
cell_ready model k nullable (Sig signature) few valid = sig_ready model k nullable signature valid
cell_ready model k nullable _ few valid = tt

cell_text : (model : Metadata) (k : ColumnKind) (nullable : Bool) (cell : Cell) → IsValidCell model k nullable cell → AllByRecursion HasNoNul (texts_of cell)
cell_text model k nullable (Text text) valid = (valid.storable.0, tt)
cell_text model k nullable _ valid = tt

-- ---- rows

-- what holds for each cell of a table, by row and index, holds for all its cells
pub each_cell : (model : Metadata) → IsValid model → (P : Cell → Type 0) (table : TableId)
    → ((k cell_index : ℕ) → k < length (rows_of model table) → cell_index < length (get_or (rows_of model table) k [])
    → IsValidCell model (kind_at table cell_index) (nullable_at table cell_index) (get_or (get_or (rows_of model table) k []) cell_index (Number 0))
    → P (get_or (get_or (rows_of model table) k []) cell_index (Number 0)))
    → AllByRecursion (AllByRecursion P) (rows_of model table)
each_cell model valid P table each =
    let rows = rows_of model table in
    recursion_from_All (AllByRecursion P) rows (All-from_get_or (AllByRecursion P) rows [] (λ k below.
    let row = get_or rows k [] in
    let back : k + 1 - 1 ≡ k = omega arith in
    let there : (1 ≤ k + 1) × (k + 1 ≤ count_in model table) = (omega arith, omega (arith, below)) in
    let long : length row ≡ cell_count table = ap (λ (i : ℕ). length (get_or rows i [])) (sym back) ∙ valid.long table (k + 1) there in
    recursion_from_All P row (All-from_get_or P row (Number 0) (λ cell_index within.
    each k cell_index below within (
    subst (λ (i : ℕ). IsValidCell model (kind_at table cell_index) (nullable_at table cell_index) (get_or (get_or rows i []) cell_index (Number 0))) back
    (valid.cells table (k + 1) cell_index there (omega (arith, long, within))))))))

pub rows_ready : (model : Metadata) → IsValid model → (table : TableId) → AllByRecursion (AllByRecursion CanBeNumbered) (rows_of model table)
rows_ready model valid table =
    each_cell model valid CanBeNumbered table (λ k cell_index row cell good.
    cell_ready model (kind_at table cell_index) (nullable_at table cell_index) (get_or (get_or (rows_of model table) k []) cell_index (Number 0)) valid.few good)

pub ready_at : (model : Metadata) → IsValid model → (table : TableId) (row cell_index : ℕ) → HasRow model table row → cell_index < cell_count table
    → CanBeNumbered (cell_in model table row cell_index)
ready_at model valid table row cell_index there within =
    cell_ready model (kind_at table cell_index) (nullable_at table cell_index) (cell_in model table row cell_index) valid.few (valid.cells table row cell_index there within)

-- ---- what holds for all used values

-- what holds for the cells of each table holds for those of all tables
pub all_tables : (model : Metadata) → length tables ≡ 38 → IsValid model → (P : Cell → Type 0)
    → ((table : TableId) → AllByRecursion (AllByRecursion P) (rows_of model table)) → AllByRecursion (AllByRecursion (AllByRecursion P)) model.tables
all_tables model count valid P each =
    recursion_from_All (AllByRecursion (AllByRecursion P)) model.tables (All-from_get_or (AllByRecursion (AllByRecursion P)) model.tables [] (λ k below.
    subst (λ (i : ℕ). AllByRecursion (AllByRecursion P) (get_or model.tables i [])) (table_index_at k (omega (arith, below, valid.tables)))
    (each (get_or tables k Module))))

pub all_used : (values : Cell → List (List ℕ)) (model : Metadata) (P : List ℕ → Type 0)
    → AllByRecursion (AllByRecursion (AllByRecursion (λ cell. AllByRecursion P (values cell)))) model.tables → AllByRecursion P (used values model)
unfolding used
all_used values model P all =
    let has = λ (cell : Cell). AllByRecursion P (values cell) in
    all_flat_map P (AllByRecursion (AllByRecursion has)) (flat_map (flat_map values))
    (λ rows in_rows. all_flat_map P (AllByRecursion has) (flat_map values) (λ cells in_row. all_flat_map P has values (λ cell h. h) cells in_row) rows in_rows)
    model.tables all

pub no_nul : (model : Metadata) → length tables ≡ 38 → IsValid model → All HasNoNul (used texts_of model)
no_nul model count valid =
    let has = λ (cell : Cell). AllByRecursion HasNoNul (texts_of cell) in
    All-from_recursion HasNoNul (used texts_of model) (all_used texts_of model HasNoNul (all_tables model count valid has (λ table.
    each_cell model valid has table (λ k cell_index row cell good.
    cell_text model (kind_at table cell_index) (nullable_at table cell_index) (get_or (get_or (rows_of model table) k []) cell_index (Number 0)) good))))
