use Rattle.sig_encoder.proofs.Says.{body_says}
use Rattle.sig_encoder.proofs.laws.items_are_parts.Goals as goal

pub returns-clause-parts : goal.returns-clause-parts
returns-clause-parts c = λ signature depth. (body_says signature depth).same

pub returns-clause-allowed : goal.returns-clause-allowed
returns-clause-allowed c = λ signature depth. ((body_says signature depth).to, (body_says signature depth).back)
