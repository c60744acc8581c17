-- Search finds these too. They are written so that a check that refuses an edit of this function ends sooner.
use Rattle.std.proofs.Common.{rules}
use Rattle.signatures.proofs.whole.decode_body.Goals as goal

pub returns-in_err-body-clause-bad : goal.returns-in_err-body-clause-bad
returns-in_err-body-clause-bad c = search rules

pub returns-clause-sound : goal.returns-clause-sound
returns-clause-sound c = search rules

pub returns-clause-bad : goal.returns-clause-bad
returns-clause-bad c = search rules
