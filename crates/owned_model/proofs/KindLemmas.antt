-- The kinds of a table's cells are those of its columns with a cell, and the rows of a valid model have these kinds.
use Rattle.std.proofs.Common.{◌≡◌, ℕ, suc, ◌<◌, List, [], ◌∷◌, length, map, Some, option_map, get_or, slice_get, refl, sym, ◌∙◌, ap, arith}
use Rattle.std.proofs.lemmas.List.{length-map}
use Rattle.std.proofs.lemmas.Option.{slice_get-map, slice_get-get_or, slice_get_within}
use Rattle.table_schema.specs.declared.table.TableId.{TableId}
use Rattle.table_schema.specs.declared.table.TableId.TheVariants.{Module}
use Rattle.table_schema.specs.declared.column.ColumnKind.{ColumnKind}
use Rattle.table_schema.specs.Columns.{column_at}
use Rattle.table_schema.specs.CellColumns.{cell_columns, cell_count, column_of}
use Rattle.metadata.specs.Cell.{Cell, Number}
use Rattle.metadata.specs.Kinds.{IsOfKind}
use Rattle.metadata.specs.Metadata.{Metadata, row_of}
use Rattle.metadata.specs.Lookups.{HasRow}
use Rattle.metadata.specs.Valid.{IsValid}
use Rattle.type_records.specs.Kinds.{kinds_of, AreOfKinds}

-- table by table
listed : (table : TableId) → kinds_of table ≡ map (λ index. (column_at table index).kind) (cell_columns table)
unfolding cell_columns
listed Module = refl
listed _ = refl

pub kind_count : (table : TableId) → length (kinds_of table) ≡ cell_count table
kind_count table = ap length (listed table) ∙ length-map (cell_columns table) (λ index. (column_at table index).kind)

pub kind_stands : (table : TableId) (cell_index : ℕ) → cell_index < cell_count table
    → slice_get (kinds_of table) cell_index ≡ Some (column_at table (column_of table cell_index)).kind
kind_stands table cell_index below =
    let kind_of : ℕ → ColumnKind = λ index. (column_at table index).kind in
    ap (λ kinds. slice_get kinds cell_index) (listed table)
    ∙ slice_get-map kind_of (cell_columns table) cell_index
    ∙ ap (option_map kind_of) (slice_get-get_or (cell_columns table) cell_index 0 below)

-- the number of cells is the number of kinds, and each cell is of its kind
of_kinds : (kinds : List ColumnKind) (cells : List Cell) → length cells ≡ length kinds
    → ((cell_index : ℕ) (kind : ColumnKind) → slice_get kinds cell_index ≡ Some kind → IsOfKind kind (get_or cells cell_index (Number 0))) → AreOfKinds kinds cells
of_kinds [] [] long each = tt
of_kinds [] (c ∷ cs) long each = absurd (omega (arith, long))
of_kinds (k ∷ ks) [] long each = absurd (omega (arith, long))
of_kinds (k ∷ ks) (c ∷ cs) long each = (each 0 k refl, of_kinds ks cs (omega (arith, long)) (λ cell_index kind at. each (suc cell_index) kind at))

pub valid_row : (model : Metadata) → IsValid model → (table : TableId) (row : ℕ) → HasRow model table row → AreOfKinds (kinds_of table) (row_of model table row)
valid_row model valid table row there =
    of_kinds (kinds_of table) (row_of model table row) (valid.long table row there ∙ sym (kind_count table)) (λ cell_index kind at.
    let within = slice_get_within (kinds_of table) cell_index kind at in
    let below : cell_index < cell_count table = omega (arith, within, kind_count table) in
    let both = sym (kind_stands table cell_index below) ∙ at in
    let is : (column_at table (column_of table cell_index)).kind ≡ kind = cc in
    rw is at (valid.cells table row cell_index there below).of_kind)
