use Rattle.std.proofs.Common.{refl}
use Rattle.cli_print.proofs.ExplanationLemmas.{begins_more, words_ended}
use Rattle.cli_print.proofs.explanations.add_word.Goals as goal

pub returns-then-word-room : goal.returns-then-word-room
returns-then-word-room g c = λ before begun. begins_more c.parts_follow.ensures.begun before _ _ _ begun refl c.parts.ensures

pub returns : goal.returns
returns g c = λ before begun.
    let ended = words_ended c.lines_follow.ensures.more c.parts_follow.ensures.nothing c.parts_follow.ensures.line before _ _ begun c.end.ensures in
    (_, _, ended, refl, c.begin.ensures)
