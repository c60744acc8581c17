use Rattle.sig_grammar.proofs.Indexes.{token_found, token_again}
use Rattle.sig_grammar.proofs.laws.indexes_are_read.Goals as goal

pub returns-clause-sound : goal.returns-clause-sound
returns-clause-sound c = token_found

pub returns-clause-complete : goal.returns-clause-complete
returns-clause-complete c = token_again
