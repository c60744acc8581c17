use Rattle.type_heads.proofs.Prelude.{◌≡◌, ◌∙◌, ◌≤◌, List, ap, length, sym, subst, arith, WritesInCalls, length-map, take_all, writes_nothing, Word, leading_words, shown_word, words_of}
use Rattle.type_heads.proofs.FlagLemmas.{word_more}
use Rattle.type_heads.proofs.flag_words.write_flags.Goals as goal

pub loop-word-init : goal.loop-word-init
loop-word-init g c = writes_nothing g.W.Write.write_str_gives c.args.out.now

pub loop-word-preserved : goal.loop-word-preserved
loop-word-preserved g c =
    word_more g.W.Write.write_str_gives c.args.flags c.words_of-word-items.result.now (words_of c.args.of) c.loop-word.word-index _ c.args.out.now c.loop-word.out
    c.write_flag.new.out c.words_of-word-items.ensures c.loop-word-test.true c.loop-word.invariant c.in_ok-write_flag.ensures

pub returns : goal.returns
returns g c =
    let items = c.words_of-word-items.result.now in
    let words = words_of c.args.of in
    let long : length items ≡ length words = sym (length-map items shown_word) ∙ ap length c.words_of-word-items.ensures in
    let all : length words ≤ c.loop-word.word-index = omega (arith, long, c.loop-word-test.false) in
    subst (λ (ws : List Word). WritesInCalls g.W.Write.write_str_gives c.args.out.now (leading_words c.args.flags ws) c.loop-word.out) (take_all c.loop-word.word-index words all)
    c.loop-word.invariant
