use Rattle.navigation.proofs.KeyedLemmas.{by_key}
use Rattle.navigation.proofs.links.references.Goals as goal

pub returns : goal.returns
returns c = by_key _ 1 _ _ _ c.in_ok-found.ensures c.in_ok-sort_by_key.ensures.sorted c.in_ok-sort_by_key.ensures.stable
