use Rattle.custom_attributes.proofs.TextPrelude.{◌++◌, ap, refl, codes, head_view, quoted_bytes, member_word, type_text, head_type}
use Rattle.custom_attributes.proofs.WriterLemmas.{writes_then}
use Rattle.custom_attributes.proofs.arguments.write_intro.Goals as goal

pub returns : goal.returns
returns g c =
    let took = g.W.Write.write_str_gives in
    let word = member_word c.args.member in
    let of = type_text (head_type (head_view c.args.argument)) in
    let name = quoted_bytes c.args.name.now in
    let end = c.write-4.new.self in
    let result = c.write-4.result in
    let after_name = codes "\" = " in
    let after_type = codes " \"" ++ (name ++ after_name) in
    let after_word = codes " " ++ (of ++ after_type) in
    writes_then took (codes " ") (word ++ after_word) end result refl c.in_ok-write.ensures.writes
    (writes_then took word after_word end result c.member_word.ensures c.in_ok-write_text.ensures
    (writes_then took (codes " ") (of ++ after_type) end result refl c.in_ok-write-2.ensures.writes
    (writes_then took of after_type end result (ap type_text c.argument_type.ensures) c.in_ok-write_type.ensures
    (writes_then took (codes " \"") (name ++ after_name) end result refl c.in_ok-write-3.ensures.writes
    (writes_then took name after_name end result refl c.in_ok-write_quoted.ensures c.write-4.ensures.writes)))))
