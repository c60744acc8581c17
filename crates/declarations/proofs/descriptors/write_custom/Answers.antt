use Rattle.declarations.proofs.Prelude.{◌++◌, refl, codes, library_text, quoted_text}
use Rattle.declarations.proofs.DescriptorLemmas.{writes_then}
use Rattle.declarations.proofs.descriptors.write_custom.Goals as goal

pub returns : goal.returns
returns g c =
    let took = g.W.Write.write_str_gives in
    let library = library_text c.args.custom.guid.now c.args.custom.unmanaged.now in
    let marshaler = quoted_text c.args.custom.marshaler.now in
    let cookie = quoted_text c.args.custom.cookie.now in
    let end = c.write-3.new.self in
    let result = c.write-3.result in
    let after_marshaler = codes ", " ++ (cookie ++ codes ")") in
    writes_then took (codes "custom(") (library ++ (marshaler ++ after_marshaler)) end result refl c.in_ok-write.ensures.writes
    (writes_then took library (marshaler ++ after_marshaler) end result refl c.in_ok-write_library.ensures
    (writes_then took marshaler after_marshaler end result refl c.in_ok-write_in_quotes.ensures
    (writes_then took (codes ", ") (cookie ++ codes ")") end result refl c.in_ok-write-2.ensures.writes
    (writes_then took cookie (codes ")") end result refl c.in_ok-write_in_quotes-2.ensures c.write-3.ensures.writes))))
