use Rattle.comparison.proofs.EqualLemmas.{same_alike, says_same}
use Rattle.comparison.proofs.IgnoredLemmas.{none_ignored}
use Rattle.comparison.proofs.laws.models_equal_but_for_no_columns_are_equal.Goals as goal

pub returns-clause-none : goal.returns-clause-none
returns-clause-none c = none_ignored

pub returns-clause-equal : goal.returns-clause-equal
returns-clause-equal c = λ ignored first second valid also none. (
  (λ alike. c.models_of_same_parts_are_one.ensures first second (says_same ignored none first second valid also alike)),
  same_alike ignored first second,
)
