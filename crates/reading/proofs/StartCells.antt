-- The cells of a model that are starts of runs.
use Rattle.reading.proofs.Prelude.{◌≡◌, ℕ, ◌≤◌, sym, ◌∙◌, ap, TableId, column_at, column_of, Start, Metadata, cell_in, Source, rows_in, number_of, start_of, MemberList, owner_of, cell_of, member_of}
use Rattle.metadata.proofs.ListLemmas.{list_within, list_kind, list_column}
use Rattle.reading.specs.ReadFrom.{IsReadFrom}
use Rattle.reading.proofs.CellLemmas.{list_cell}

-- the cell that lists an owner's members is the start of their run
pub start_in_cell : (source : Source) (list : MemberList) (row : ℕ) → 1 ≤ row → row ≤ rows_in source (owner_of list) → (owner member : TableId) (cell start : ℕ)
    → owner ≡ owner_of list → cell ≡ cell_of list → member ≡ member_of list → start ≡ start_of source owner row cell member
    → (model : Metadata) → IsReadFrom source model → cell_in model (owner_of list) row (cell_of list) ≡ Start start
start_in_cell source list row first last owner member cell start owners cells members value model read =
    let column = column_of (owner_of list) (cell_of list) in
    let held = column_at (owner_of list) column in
    list_cell source held.kind held.nullable (start_of source (owner_of list) row column) (number_of source (owner_of list) row column)
    (cell_in model (owner_of list) row (cell_of list)) (member_of list) (list_kind list) (read.cells (owner_of list) row (cell_of list) first last (list_within list))
    ∙ ap Start (ap (λ (k : ℕ). start_of source (owner_of list) row k (member_of list)) (list_column list)
    ∙ sym (value ∙ ap (λ (o : TableId). start_of source o row cell member) owners ∙ ap (λ (k : ℕ). start_of source (owner_of list) row k member) cells
    ∙ ap (start_of source (owner_of list) row (cell_of list)) members))
