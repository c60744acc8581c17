use Rattle.std.proofs.Common.{sym}
use Rattle.schema.proofs.NumberLemmas.{length-number_bytes, number_bytes-encode}
use Rattle.schema.proofs.laws.numbers_are_encoded.Goals as goal

pub returns : goal.returns
returns c = λ width number fits. record { long = length-number_bytes width number; equal = sym (number_bytes-encode width number fits) }
