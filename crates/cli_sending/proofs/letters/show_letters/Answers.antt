use Rattle.std.proofs.Common.{◌∙◌, ap, drop, List, ℕ}
use Rattle.cli_sending.proofs.LetterLemmas.{all_plain}
use Rattle.cli_sending.proofs.letters.show_letters.Goals as goal

pub returns-in-None : goal.returns-in-None
returns-in-None c =
    all_plain c.args.line.now.items c.split_at.result.1.now c.args.start
    (c.split_at.ensures.back ∙ ap (λ (line : List ℕ). drop c.args.start line) c.deref.ensures.value) c.in-None.ensures
