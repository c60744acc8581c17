use Rattle.heap_pools.proofs.HeapTextLemmas.{text_is, texts_are}
use Rattle.heap_pools.proofs.laws.texts_are_at.Goals as goal

pub returns-clause-text : goal.returns-clause-text
returns-clause-text c = text_is

pub returns-clause-texts : goal.returns-clause-texts
returns-clause-texts c = texts_are
