use Rattle.custom_attributes.proofs.TextPrelude.{◌++◌, refl, codes, quoted_bytes}
use Rattle.custom_attributes.proofs.WriterLemmas.{writes_then}
use Rattle.custom_attributes.proofs.scalars.write_string.Goals as goal

pub returns-in_ok-write_quoted-in-Some : goal.returns-in_ok-write_quoted-in-Some
returns-in_ok-write_quoted-in-Some g c =
    let took = g.W.Write.write_str_gives in
    let text = quoted_bytes c.in-Some.text.now in
    let end = c.write-in-Some.new.self in
    let result = c.write-in-Some.result in
    rw c.in-Some.is
    (writes_then took (codes "\"") (text ++ codes "\"") end result refl c.in_ok-write-in-Some.ensures.writes
    (writes_then took text (codes "\"") end result refl c.in_ok-write_quoted-in-Some.ensures c.write-in-Some.ensures.writes))
