use Rattle.std.proofs.Common.{sym}
use Rattle.heap_entries.proofs.padding.same_padded.Goals as goal

pub returns-then-left-right : goal.returns-then-left-right
returns-then-left-right c = ((λ yes. sym (c.has_more_zeros.ensures.0 yes)), (λ same. c.has_more_zeros.ensures.1 (sym same)))
