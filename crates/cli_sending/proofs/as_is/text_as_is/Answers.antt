use Rattle.cli_sending.proofs.Prelude.{◌≡◌, List, ℕ, subst, as_is}
use Rattle.cli_sending.proofs.LetterLemmas.{plain_as_is}
use Rattle.cli_sending.proofs.as_is.text_as_is.Goals as goal

pub returns-in-None : goal.returns-in-None
returns-in-None c = subst (λ (t : List ℕ). t ≡ as_is t) c.as_bytes.ensures.value (plain_as_is c.as_bytes.result.now c.in-None.ensures)
