use Rattle.sig_text.specs.Shown.{parameter_shown}
use Rattle.sig_text.proofs.Chains.{and_then, pieces_only}
use Rattle.sig_text.proofs.types.parameter.Goals as goal

pub returns : goal.returns
unfolding parameter_shown
returns g c = rw (← c.number-count.ensures) (pieces_only (and_then c.put_text.ensures c.put_number.ensures))
