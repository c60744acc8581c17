use Rattle.heap_entries.proofs.Prelude.{sym, ◌∙◌, false≢true, IsUtf8-from_is_utf8, is_utf8-from_IsUtf8}
use Rattle.heap_entries.proofs.strings.known_text.Goals as goal

pub from_utf8_unchecked-requires : goal.from_utf8_unchecked-requires
from_utf8_unchecked-requires c = IsUtf8-from_is_utf8 c.args.heap.now (sym c.requires ∙ c.if-utf8.true)

pub returns-else-utf8 : goal.returns-else-utf8
returns-else-utf8 c = λ is. false≢true (sym c.if-utf8.false ∙ (c.requires ∙ is_utf8-from_IsUtf8 c.args.heap.now is))
