use Rattle.sig_text.proofs.Chains.{and_then}
use Rattle.sig_text.proofs.types.convention.Goals as goal

pub returns : goal.returns
returns g c = rw (← c.in_first_byte.ensures, ← c.convention_name.ensures, ← c.has_this.ensures, ← c.has_explicit_this.ensures) (and_then c.put_if.ensures (and_then c.put_if-2.ensures c.put_text.ensures))
