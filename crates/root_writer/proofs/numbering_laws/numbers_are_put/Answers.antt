use Rattle.root_writer.proofs.FlatLemmas.{numbers_back, numbers_long}
use Rattle.root_writer.proofs.numbering_laws.numbers_are_put.Goals as goal

pub returns-clause-back : goal.returns-clause-back
returns-clause-back c model sizes same = numbers_back model sizes same

pub returns-clause-many : goal.returns-clause-many
returns-clause-many c model sizes same = numbers_long model sizes same
