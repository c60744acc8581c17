use Rattle.sig_text.proofs.Chains.{and_then}
use Rattle.sig_text.proofs.marks.modifier.Goals as goal

pub returns : goal.returns
returns g c = rw (← c.modifier_word.ensures) (and_then c.put_text.ensures (and_then c.put_name.ensures c.put_text-2.ensures))
