use Rattle.owned_model.proofs.Prelude.{◌≡◌, [], length, take, Metadata, rows_of, IsModel, with_rows}
use Rattle.owned_model.proofs.table_rows.load_rows.Given as goal

-- the rows so far are the first rows of the table
abbrev pub invariant-loop-row : goal.invariant-loop-row
invariant-loop-row l =
    (model : Metadata) → IsModel l.view model → length l.fn.tables.tables ≡ 38 → rows_of l.fn.tables l.table ≡ []
    → l.tables ≡ with_rows l.fn.tables l.table (take l.row (rows_of model l.table))
