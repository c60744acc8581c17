use Rattle.sig_text.specs.Shown.{named_shown}
use Rattle.sig_text.proofs.Chains.{and_then, pieces_only}
use Rattle.sig_text.proofs.types.named.Goals as goal

pub returns : goal.returns
unfolding named_shown
returns g c = rw (← c.kind_word.ensures, ← c.index.ensures) (pieces_only (and_then c.put_text.ensures c.put_name.ensures))
