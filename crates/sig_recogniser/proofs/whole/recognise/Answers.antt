use Rattle.sig_recogniser.proofs.Recognised.{recognised}
use Rattle.sig_recogniser.proofs.whole.recognise.Goals as goal

pub returns-clause-one : goal.returns-clause-one
returns-clause-one c = λ first second. c.signatures_are_read.ensures.one c.args.kind first second c.args.bytes.now

pub returns-clause-encoded : goal.returns-clause-encoded
returns-clause-encoded c = recognised c.args.kind c.args.bytes.now _ c.recognise_first_bad.result c.is_some.result c.is_some.ensures c.recognise_first_bad.ensures.sound c.recognise_first_bad.ensures.complete
