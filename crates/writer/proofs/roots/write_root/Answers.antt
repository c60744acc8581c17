-- Auto finds this too. It is written so that a check that refuses an edit of this function ends sooner.
use Rattle.writer.proofs.roots.write_root.Goals as goal

pub returns-clause-refused : goal.returns-clause-refused
returns-clause-refused g c = λ model is. c.write_root_within.ensures.refused model is
