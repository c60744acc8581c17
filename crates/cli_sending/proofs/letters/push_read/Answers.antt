use Rattle.cli_sending.proofs.Prelude.{◌∙◌, drop-drop}
use Rattle.cli_sending.proofs.LetterLemmas.{all_shown}
use Rattle.cli_sending.proofs.letters.push_read.Goals as goal

pub loop-index-preserved : goal.loop-index-preserved
loop-index-preserved c =
    rw (← drop-drop 1 c.loop-index.index c.args.text.now) (rw c.split_at.ensures.back at c.in_ok-skipped.ensures ∙ c.loop-index.invariant)

pub returns : goal.returns
returns c = all_shown c.args.what c.loop-index.out.items c.args.out.now.items c.args.text.now c.loop-index.skipped c.loop-index.index c.loop-index-test.false c.loop-index.invariant
