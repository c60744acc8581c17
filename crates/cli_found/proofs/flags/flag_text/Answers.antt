use Rattle.cli_found.proofs.Prelude.{string_bytes, ◌∙◌, ap, fold, map, sym, shown_word, with_word, drop_all, drop_more}
use Rattle.cli_found.proofs.flags.flag_text.Goals as goal

pub loop-word-preserved : goal.loop-word-preserved
loop-word-preserved c =
    let loop = c.loop-word in
    rw c.in_ok-push_word.ensures
    (ap (λ left. fold (with_word c.args.number) (string_bytes loop.text) (map shown_word left)) (sym (drop_more c.words_of-words.result.now loop.word-index _ c.loop-word-test.true)) ∙ loop.invariant)

pub returns : goal.returns
returns c = rw (drop_all c.loop-word.word-index c.words_of-words.result.now c.loop-word-test.false) at c.loop-word.invariant
