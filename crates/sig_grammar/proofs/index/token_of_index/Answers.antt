use Rattle.sig_grammar.proofs.Tokens.{no_token, one_token}
use Rattle.sig_grammar.proofs.index.token_of_index.Goals as goal

pub returns-in_err-table : goal.returns-in_err-table
returns-in_err-table c = rw c.from_residual.ensures (no_token c.indexes_are_read.ensures.sound c.args.number c.split.result c.in_err-table.was c.split.ensures.complete)

pub returns : goal.returns
returns c = one_token c.indexes_are_read.ensures.complete c.args.number c.in_ok-table.table c.in_ok-table.row c.in_ok-table.ensures.sound
