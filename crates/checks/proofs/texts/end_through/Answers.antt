use Rattle.checks.proofs.Prelude.{◌++◌, ◌≡◌, ◌-◌, take, drop, ap, ◌∙◌, sym, arith, IsUtf8-append}
use Rattle.checks.proofs.TextLemmas.{text_answers, no_text_answers, longer_ended, longer_length, prefix_utf8, none_found}
use Rattle.checks.proofs.texts.end_through.Goals as goal

pub returns-in-Ok-clause-reaches : goal.returns-in-Ok-clause-reaches
returns-in-Ok-clause-reaches c =
    let heap = c.args.heap.now in
    let known = c.requires.known in
    let prefix = c.split_at-2.result.0.now in
    let is : prefix ≡ take (c.args.known - c.args.index) (drop c.args.index heap) = c.split_at-2.ensures.front ∙ ap (take (c.args.known - c.args.index)) c.split_at.ensures.back in
    let none = none_found prefix c.memchr.result c.memchr.ensures (sym c.is_some.ensures ∙ c.if-is_some.false) in
    record {
      text = prefix ++ known.text;
      ended = longer_ended heap c.args.known known.text known.ended c.args.index c.requires.order prefix is none;
      utf8 = IsUtf8-append prefix known.text c.in-Ok.ensures.1 known.utf8;
      long = omega (arith, longer_length heap c.args.known known.text known.ended c.args.index c.requires.order prefix is, known.long);
    }

pub returns-in-Ok-clause-reports : goal.returns-in-Ok-clause-reports
returns-in-Ok-clause-reports c =
    let all = returns-in-Ok-clause-reaches c in
    text_answers c.args.heap.now c.args.index all.text (omega arith) all.ended all.utf8 (tt {0})

pub returns-in-Err-clause-reports : goal.returns-in-Err-clause-reports
returns-in-Err-clause-reports c =
    let heap = c.args.heap.now in
    let known = c.requires.known in
    let prefix = c.split_at-2.result.0.now in
    let is : prefix ≡ take (c.args.known - c.args.index) (drop c.args.index heap) = c.split_at-2.ensures.front ∙ ap (take (c.args.known - c.args.index)) c.split_at.ensures.back in
    let none = none_found prefix c.memchr.result c.memchr.ensures (sym c.is_some.ensures ∙ c.if-is_some.false) in
    no_text_answers heap c.args.index (prefix ++ known.text) (omega arith)
    (longer_ended heap c.args.known known.text known.ended c.args.index c.requires.order prefix is none)
    (λ all. c.in-Err.ensures (prefix_utf8 prefix known.text known.utf8 all))
    (Unit {0})
