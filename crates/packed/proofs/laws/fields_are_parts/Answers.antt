use Rattle.packed.proofs.FieldLemmas.{stand_says, says_stand, stand_says_part, part_says_stand}
use Rattle.packed.proofs.laws.fields_are_parts.Goals as goal

pub returns-clause-said : goal.returns-clause-said
returns-clause-said c = stand_says

pub returns-clause-stand : goal.returns-clause-stand
returns-clause-stand c = says_stand

pub returns-clause-said_of_part : goal.returns-clause-said_of_part
returns-clause-said_of_part c = λ whole offset fields stands. (stand_says_part whole offset fields stands).0

pub returns-clause-stand_by_part : goal.returns-clause-stand_by_part
returns-clause-stand_by_part c = part_says_stand
