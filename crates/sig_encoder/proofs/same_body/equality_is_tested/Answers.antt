use Rattle.sig_encoder.proofs.TestLaws.{body_decides}
use Rattle.sig_encoder.proofs.same_body.equality_is_tested.Goals as goal

pub returns : goal.returns
returns c = body_decides
