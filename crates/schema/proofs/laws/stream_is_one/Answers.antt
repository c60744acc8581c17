use Rattle.std.proofs.Common.{◌∙◌, sym}
use Rattle.schema.proofs.StreamLemmas.{sizes_laid}
use Rattle.schema.proofs.OneLemmas.{numbers_one}
use Rattle.schema.proofs.laws.stream_is_one.Goals as goal

pub returns : goal.returns
returns c = record { sizes = λ stream sizes others numbers more x y. sizes_laid stream sizes numbers x ∙ sym (sizes_laid stream others more y); numbers = numbers_one }
