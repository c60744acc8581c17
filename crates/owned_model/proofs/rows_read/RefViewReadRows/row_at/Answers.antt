use Rattle.owned_model.proofs.Prelude.{row_of, kinds_of}
use Rattle.owned_model.proofs.RefRowLemmas.{row_is_one}
use Rattle.owned_model.proofs.rows_read.RefViewReadRows.row_at.Goals as goal

pub returns-clause-complete : goal.returns-clause-complete
returns-clause-complete c = λ model is cells says.
    row_is_one c.cells_of.result (kinds_of c.args.table) cells (row_of model c.args.table c.args.row) says (c.cells_of.ensures.model model is)
