use Rattle.heap_entries.proofs.Prelude.{ap, ◌∙◌, is_utf8}
use Rattle.heap_entries.proofs.WholeLemmas.{utf8_is}
use Rattle.heap_entries.proofs.strings.Strings.is_utf8.Goals as goal

pub returns : goal.returns
returns c = c.is_some.ensures ∙ (utf8_is c.self.inside.heap.now c.self.inside.whole c.self.invariant.whole ∙ ap is_utf8 c.self.view_is)
