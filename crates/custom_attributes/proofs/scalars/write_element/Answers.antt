use Rattle.custom_attributes.proofs.TextPrelude.{◌++◌, refl, codes, scalar_view, scalar_text}
use Rattle.custom_attributes.proofs.WriterLemmas.{writes_then}
use Rattle.custom_attributes.proofs.scalars.write_element.Goals as goal

pub returns-in_ok-write_scalar-in-Boxed : goal.returns-in_ok-write_scalar-in-Boxed
returns-in_ok-write_scalar-in-Boxed g c =
    let took = g.W.Write.write_str_gives in
    let text = scalar_text (scalar_view c.in-Boxed.value) in
    let end = c.write-in-Boxed.new.self in
    let result = c.write-in-Boxed.result in
    rw c.in-Boxed.is
    (writes_then took (codes "object(") (text ++ codes ")") end result refl c.in_ok-write-in-Boxed.ensures.writes
    (writes_then took text (codes ")") end result refl c.in_ok-write_scalar-in-Boxed.ensures c.write-in-Boxed.ensures.writes))
