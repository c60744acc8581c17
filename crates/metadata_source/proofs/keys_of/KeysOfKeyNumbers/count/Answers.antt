use Rattle.std.proofs.Common.{◌∙◌, sym}
use Rattle.metadata_source.proofs.KeyLemmas.{numbers_count}
use Rattle.metadata_source.proofs.keys_of.KeysOfKeyNumbers.count.Goals as goal

pub returns-clause-value : goal.returns-clause-value
returns-clause-value g c = c.count.ensures.rows ∙ sym (numbers_count _ _)
