use Rattle.schema.proofs.ReadLemmas.{numbers_laid, numbers_each}
use Rattle.schema.proofs.read_laws.numbers_are_read.Goals as goal

pub returns : goal.returns
returns c = record { is = numbers_laid; each = numbers_each }
