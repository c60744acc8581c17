use Rattle.owned_model.proofs.Prelude.{◌≡◌, ◌++◌, take, drop, Metadata, IsModel}
use Rattle.owned_model.proofs.table_rows.load_tables.Given as goal

-- the tables so far are the first tables of the model
abbrev pub invariant-loop-table : goal.invariant-loop-table
invariant-loop-table l =
    (model : Metadata) → IsModel l.view model → l.tables ≡ record l.fn.tables { tables = take l.table-index model.tables ++ drop l.table-index l.fn.tables.tables }
