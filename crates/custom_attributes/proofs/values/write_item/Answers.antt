use Rattle.custom_attributes.proofs.TextPrelude.{refl, codes, element_view, entry_end, entry_text, head_text, head_type, head_view, intro_text}
use Rattle.custom_attributes.proofs.WriterLemmas.{writes_same, writes_then}
use Rattle.custom_attributes.proofs.values.write_item.Goals as goal

pub returns-in_ok-write-in-Fixed : goal.returns-in_ok-write-in-Fixed
returns-in_ok-write-in-Fixed g c =
    rw c.in-Fixed.is
    (writes_then g.W.Write.write_str_gives (codes " ") (head_text (head_view c.in-Fixed.argument)) c.write_argument.new.out c.write_argument.result refl c.in_ok-write-in-Fixed.ensures.writes
    c.write_argument.ensures)

pub returns-in_ok-write_entry-in-Element : goal.returns-in_ok-write_entry-in-Element
returns-in_ok-write_entry-in-Element g c =
    let took = g.W.Write.write_str_gives in
    let last = entry_end c.args.left in
    let result = c.write_text.result in
    rw c.in-Element.is
    (writes_then took (entry_text (element_view c.in-Element.value)) last c.write_text.new.out result refl c.in_ok-write_entry-in-Element.ensures
    (writes_same took c.write_entry.new.out c.write_text.new.out c.entry_end.result.now last result c.entry_end.ensures c.write_text.ensures))

pub returns-in_ok-write_intro-in-Named : goal.returns-in_ok-write_intro-in-Named
returns-in_ok-write_intro-in-Named g c =
    let head = head_view c.in-Named.argument in
    let text = intro_text c.in-Named.member (head_type head) c.in-Named.name.now in
    rw c.in-Named.is
    (writes_then g.W.Write.write_str_gives text (head_text head) c.write_argument-in-Named.new.out c.write_argument-in-Named.result refl c.in_ok-write_intro-in-Named.ensures
    c.write_argument-in-Named.ensures)
