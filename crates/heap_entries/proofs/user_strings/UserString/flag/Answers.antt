use Rattle.heap_entries.proofs.Prelude.{◌∙◌, ap, UserText}
use Rattle.heap_entries.proofs.UserLemmas.{last_at}
use Rattle.heap_entries.proofs.user_strings.UserString.flag.Goals as goal

pub returns : goal.returns
returns c = c.copied.ensures ∙ c.last.ensures.value ∙ last_at c.self.inside.blob.now ∙ ap (λ (string : UserText). string.flag) c.self.view_is
