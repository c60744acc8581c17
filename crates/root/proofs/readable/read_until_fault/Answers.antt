use Rattle.root.proofs.HeaderLemmas.{shows_from_has}
use Rattle.root.proofs.readable.read_until_fault.Goals as goal

pub new-headers-requires-clause-shows : goal.new-headers-requires-clause-shows
new-headers-requires-clause-shows c = λ i lt. shows_from_has _ _ (c.count_readable-count.ensures.each i lt)
