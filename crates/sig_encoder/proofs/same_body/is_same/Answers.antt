use Rattle.std.proofs.lemmas.Bool.Decides.{same_from_decides}
use Rattle.sig_encoder.proofs.TestLaws.{body_decides}
use Rattle.sig_encoder.proofs.same_body.is_same.Goals as goal

pub returns-clause-test : goal.returns-clause-test
returns-clause-test c = same_from_decides _ _ c.same_bodies.ensures (body_decides _ _)
