use Rattle.schema.proofs.StreamLemmas.{rules_laid, sizes_laid, stream_there}
use Rattle.schema.proofs.read_laws.streams_are_read.Goals as goal

pub returns : goal.returns
returns c = record { rules_hold = rules_laid; said = sizes_laid; sound = stream_there }
