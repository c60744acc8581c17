use Rattle.sig_text.proofs.Chains.{and_then, silent}
use Rattle.sig_text.proofs.types.arity.Goals as goal

pub returns-in-None : goal.returns-in-None
returns-in-None g c = rw c.in-None.is silent

pub returns-in-Some : goal.returns-in-Some
returns-in-Some g c = rw c.in-Some.is (and_then c.put_text.ensures (and_then c.put_number.ensures c.put_text-in-Some.ensures))
