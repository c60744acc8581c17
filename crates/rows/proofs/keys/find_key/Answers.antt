-- Search finds these too. They are written so that a check that refuses an edit of this function ends sooner.
use Rattle.std.proofs.Common.{rules}
use Rattle.rows.proofs.keys.find_key.Goals as goal

pub returns-clause-rows : goal.returns-clause-rows
returns-clause-rows g c = search rules

pub returns-clause-above : goal.returns-clause-above
returns-clause-above g c = search rules
