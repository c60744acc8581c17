use Rattle.sig_encoder.proofs.SameLemmas.{of_another_form}
use Rattle.sig_encoder.proofs.same_parts.is_simple.Goals as goal

pub returns-in_default : goal.returns-in_default
returns-in_default c = of_another_form c.args.core.now _ c.in_default.not-Simple
