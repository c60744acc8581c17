use Rattle.std.proofs.Common.{[], refl}
use Rattle.cli_print.proofs.ExplanationLemmas.{words_ended}
use Rattle.cli_print.proofs.explanations.print_item.Goals as goal

pub returns-in_default : goal.returns-in_default
returns-in_default g c = ([], refl, c.lines_follow.ensures.nothing _)

pub loop-word-init : goal.loop-word-init
loop-word-init g c = (_, _, ([], refl, c.lines_follow.ensures.nothing _), refl, c.begin.ensures)

pub returns : goal.returns
returns g c =
    words_ended c.lines_follow.ensures.more c.parts_follow.ensures.nothing c.parts_follow.ensures.line _ _ _ c.loop-word.invariant c.end.ensures
