use Rattle.full_names.proofs.Prelude.{◌≡◌, ◌∙◌, ◌++◌, ap, sym, true, false, codes, is_word, name_text, quoted_bytes}
use Rattle.full_names.proofs.QuotedLemmas.{in_quotes, word_alone}
use Rattle.full_names.proofs.TextLemmas.{writes_last, writes_same}
use Rattle.full_names.proofs.quoted.write_name.Goals as goal

pub returns-then-is_word : goal.returns-then-is_word
returns-then-is_word g c =
    let name = c.args.name.now in
    let so : is_word c.args.kind name ≡ true = sym (ap (is_word c.args.kind) c.as_bytes.ensures.value) ∙ sym c.is_word.ensures ∙ c.if-is_word.true in
    writes_same g.W.Write.write_str_gives c.args.out.now name (name_text c.args.kind name) c.write.new.self c.write.result (word_alone c.args.kind name so) c.write.ensures.writes

pub returns : goal.returns
returns g c =
    let took = g.W.Write.write_str_gives in
    let not_so : is_word c.args.kind c.args.name.now ≡ false = sym (ap (is_word c.args.kind) c.as_bytes.ensures.value) ∙ sym c.is_word.ensures ∙ c.if-is_word.false in
    let text = quoted_bytes c.args.name.now in
    let inner = writes_last took c.write-2.new.self text c.write_quoted.new.out (codes "'") c.write-3.new.self c.write-3.result c.in_ok-write_quoted.ensures c.write-3.ensures.writes in
    writes_same took c.args.out.now (codes "'" ++ (text ++ codes "'")) (name_text c.args.kind c.args.name.now) c.write-3.new.self c.write-3.result (in_quotes c.args.kind c.args.name.now not_so)
    (writes_last took c.args.out.now (codes "'") c.write-2.new.self (text ++ codes "'") c.write-3.new.self c.write-3.result c.in_ok-write.ensures.writes inner)
