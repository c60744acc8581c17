use Rattle.type_heads.proofs.Prelude.{rules, ◌≡◌, ◌==◌, false, true, bit_and, codes, writes_last, writes_nothing}
use Rattle.type_heads.proofs.flag_words.write_flag.Goals as goal

pub returns-then-flags-word : goal.returns-then-flags-word
returns-then-flags-word g c =
    let other : (bit_and c.args.flags c.args.word.mask == c.args.word.value) ≡ false = search rules in
    rw other (writes_nothing g.W.Write.write_str_gives c.args.out.now)

pub returns : goal.returns
returns g c =
    let same : (bit_and c.args.flags c.args.word.mask == c.args.word.value) ≡ true = search rules in
    rw same (writes_last g.W.Write.write_str_gives c.args.out.now c.args.word.text.now c.write_text.new.out (codes " ") c.write_text-2.new.out c.write_text-2.result c.in_ok-write_text.ensures c.write_text-2.ensures)
