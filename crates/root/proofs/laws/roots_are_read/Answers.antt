use Rattle.root.proofs.LawLemmas.{rules_met, directory_said, root_found, offset_within}
use Rattle.root.proofs.laws.roots_are_read.Goals as goal

pub returns : goal.returns
returns c = record { rules_hold = rules_met; said = directory_said; sound = root_found; within = offset_within }
