-- The content of the cells of a row, one by one.
use Rattle.tables.proofs.Prelude.{◌≡◌, ℕ, ◌<◌, List, Option, Some, None, length, slice_index_or, unwrap_or, option_map, Bool, inl, inr, refl, ap, sym, ◌∙◌, FirstBroken, TableId, ColumnKind, table_number, Refusal, Metadata, cell_in, MayRefer, kind_at, nullable_at, refusals_of_cell, said, all_said}
use Rattle.std.proofs.Math.ListN.{get_or-map}
use Rattle.std.proofs.lemmas.List as lists
use Rattle.packed.specs.declared.code.FaultCode.TheVariants.{BadIndex}
use Rattle.packed.specs.Codes.{number_of_code}
use Rattle.metadata.specs.Cell as says
use Rattle.metadata.specs.Kinds.{IsOfKind, IsStorable}
use Rattle.tables.specs.declared.cell.Cell.{Cell}
use Rattle.tables.specs.declared.cell.Cell.TheVariants.{Number}

said_or : (found : Option Cell) → said (unwrap_or found (Number 0)) ≡ unwrap_or (option_map said found) (says.Number 0)
said_or None = refl
said_or (Some cell) = refl

said_at : (cells : List Cell) (cell_index : ℕ) → slice_index_or (all_said cells) cell_index (says.Number 0) ≡ said (slice_index_or cells cell_index (Number 0))
said_at cells cell_index = get_or-map said cells cell_index (Number 0)

-- a cell that is read, or none after the last
pub got_said : (cells : List Cell) (row : List says.Cell) (cell_index : ℕ) (found : Option Cell) → all_said cells ≡ row
    → ((d : Cell) → unwrap_or found d ≡ slice_index_or cells cell_index d) → unwrap_or (option_map said found) (says.Number 0) ≡ slice_index_or row cell_index (says.Number 0)
got_said cells row cell_index found same got = rw (← same, said_at cells cell_index, ← got (Number 0)) (sym (said_or found))

-- a cell of a slice
pub item_said : (cells : List Cell) (row : List says.Cell) (cell_index : ℕ) (cell : Cell) → all_said cells ≡ row → cell_index < length cells
    → cell ≡ slice_index_or cells cell_index cell → said cell ≡ slice_index_or row cell_index (says.Number 0)
item_said cells row cell_index cell same within is =
    rw (← same) (sym (lists.get_or-map said cells cell_index cell (says.Number 0) within ∙ ap said (sym is)))

pub all_length : (cells : List Cell) (row : List says.Cell) → all_said cells ≡ row → length row ≡ length cells
all_length cells row same = rw (← same) (lists.length-map cells said)

-- a cell that fits its column, but refers to no row that it may refer to
pub cell_has_index : (model : Metadata) (table : TableId) (row cell_index : ℕ) (kind : ColumnKind) (nullable : Bool) (cell : says.Cell) (found : Refusal)
    → kind ≡ kind_at table cell_index → nullable ≡ nullable_at table cell_index → cell ≡ cell_in model table row cell_index
    → IsOfKind kind cell × IsStorable cell → ¬ MayRefer model nullable cell
    → found ≡ record { code = number_of_code BadIndex; table = table_number table; row = row; column = cell_index }
    → FirstBroken (refusals_of_cell model table row cell_index) found
unfolding refusals_of_cell
cell_has_index model table row cell_index kind nullable cell found is_kind is_nullable is_cell fits no_row is_found =
    inr (rw (is_kind, is_cell) at fits, inl (λ refers. no_row (rw (is_nullable, is_cell) refers), is_found))
