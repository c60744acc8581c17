use Rattle.owned_model.proofs.Prelude.{◌≡◌, take, all_said, Metadata, row_of, IsModel}
use Rattle.owned_model.proofs.table_rows.load_row.Given as goal

-- the cells so far are the first cells of the row
abbrev pub invariant-loop-column : goal.invariant-loop-column
invariant-loop-column l = (model : Metadata) → IsModel l.view model → all_said l.cells.items ≡ take l.column (row_of model l.table l.row)
