use Rattle.packed.proofs.PackedLemmas.{unsigned_found, unsigned_again}
use Rattle.packed.proofs.SignedLemmas.{signed_found, signed_again}
use Rattle.packed.proofs.laws.numbers_are_read.Goals as goal

pub returns-clause-unsigned : goal.returns-clause-unsigned
returns-clause-unsigned c = unsigned_found

pub returns-clause-unsigned_only : goal.returns-clause-unsigned_only
returns-clause-unsigned_only c = unsigned_again

pub returns-clause-signed : goal.returns-clause-signed
returns-clause-signed c = signed_found

pub returns-clause-signed_only : goal.returns-clause-signed_only
returns-clause-signed_only c = signed_again
