use Rattle.rows.proofs.RowLemmas.{row_again}
use Rattle.rows.proofs.put.rows_are_read_again.Goals as goal

pub returns : goal.returns
returns c = row_again
