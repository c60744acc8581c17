use Rattle.custom_attributes.proofs.TextPrelude.{◌∙◌, ◌++◌, ap, refl, codes, scalar_type, scalar_view, content_text, type_word}
use Rattle.custom_attributes.proofs.WriterLemmas.{writes_then}
use Rattle.custom_attributes.proofs.scalars.write_scalar.Goals as goal

pub returns : goal.returns
returns g c =
    let took = g.W.Write.write_str_gives in
    let value = scalar_view c.args.value in
    let text = content_text value in
    let end = c.write-2.new.self in
    let result = c.write-2.result in
    writes_then took (type_word (scalar_type value)) (codes "(" ++ (text ++ codes ")")) end result (c.type_word.ensures ∙ ap type_word c.scalar_type.ensures) c.in_ok-write_text.ensures
    (writes_then took (codes "(") (text ++ codes ")") end result refl c.in_ok-write.ensures.writes
    (writes_then took text (codes ")") end result refl c.in_ok-write_content.ensures c.write-2.ensures.writes))
