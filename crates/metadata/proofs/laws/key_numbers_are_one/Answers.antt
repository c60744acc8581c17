use Rattle.metadata.proofs.Prelude.{ap, kind_at, key_number}
use Rattle.metadata.proofs.NumberLemmas.{reports_key}
use Rattle.metadata.proofs.laws.key_numbers_are_one.Goals as goal

pub returns : goal.returns
returns c = λ table cell at token there takes key taken. (
  (λ same. ap (key_number (kind_at table cell)) same),
  (λ same. reports_key (kind_at table cell) token there takes key taken same),
)
