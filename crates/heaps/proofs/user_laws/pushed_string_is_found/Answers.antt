use Rattle.heaps.proofs.UserHeapLemmas.{user_string_found}
use Rattle.heaps.proofs.user_laws.pushed_string_is_found.Goals as goal

pub returns : goal.returns
returns c = user_string_found
