use Rattle.opening.specs.Views.{row_count}
use Rattle.owned_model.proofs.rows_read.RefViewReadRows.holds_rows.Goals as goal

pub returns : goal.returns
unfolding row_count
returns c = λ model is table. c.models_are_read.ensures.count c.args.self.now.now model is table
