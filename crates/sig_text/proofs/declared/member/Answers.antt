use Rattle.sig_text.proofs.Prelude.{member_shown}
use Rattle.sig_text.proofs.Chains.{and_then}
use Rattle.sig_text.proofs.declared.member.Goals as goal

pub returns : goal.returns
unfolding member_shown
returns g c = rw (← c.byte-code.ensures, c.if-code-ne-FIELD.false) (and_then c.slot.ensures.wrote (and_then c.put_text.ensures c.put_method_name.ensures))
