use Rattle.checks.proofs.Prelude.{◌-◌, drop, sym, ◌∙◌, arith, false≢true}
use Rattle.checks.proofs.TextLemmas.{text_answers, no_text_answers, ending_ended, ending_utf8, ending_not}
use Rattle.checks.proofs.texts.check_within.Goals as goal

pub returns-then-begins_character : goal.returns-then-begins_character
returns-then-begins_character c =
    let heap = c.args.heap.now in
    let known = c.requires.known.2 in
    let begins = c.begins_character.ensures.0 c.if-begins_character.true in
    record {
      reports = text_answers heap c.args.index (drop (c.args.index - c.args.known) known.text) (omega arith)
          (ending_ended heap c.args.known known.text known.ended c.args.index c.requires.order (omega (arith, known.long, c.requires.known.1)))
          (ending_utf8 heap c.args.known known.text known.ended c.args.index c.requires.order (omega (arith, known.long, c.requires.known.1)) known.utf8 begins)
          (tt {0});
    }

pub returns-else-begins_character : goal.returns-else-begins_character
returns-else-begins_character c =
    let heap = c.args.heap.now in
    let known = c.requires.known.2 in
    record {
      reports = no_text_answers heap c.args.index (drop (c.args.index - c.args.known) known.text) (omega arith)
          (ending_ended heap c.args.known known.text known.ended c.args.index c.requires.order (omega (arith, known.long, c.requires.known.1)))
          (ending_not heap c.args.known known.text known.ended c.args.index c.requires.order (omega (arith, known.long, c.requires.known.1))
          (λ begins. false≢true (sym c.if-begins_character.false ∙ c.begins_character.ensures.1 begins)))
          (Unit {0});
    }
