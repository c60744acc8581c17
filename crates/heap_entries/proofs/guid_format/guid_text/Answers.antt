use Rattle.std.proofs.Common.{arith}
use Rattle.heap_entries.proofs.GuidTextLemmas.{swapped_is, copy_is, copy_parses}
use Rattle.heap_entries.proofs.guid_format.guid_text.Goals as goal

pub returns-clause-text : goal.returns-clause-text
returns-clause-text c = grind (arith, swapped_is, copy_is, copy_parses)

pub returns-clause-parsed : goal.returns-clause-parsed
returns-clause-parsed c = grind (arith, swapped_is, copy_is, copy_parses)
