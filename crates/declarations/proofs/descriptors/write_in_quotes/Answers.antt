use Rattle.declarations.proofs.Prelude.{◌++◌, refl, codes, quoted_bytes}
use Rattle.declarations.proofs.DescriptorLemmas.{writes_then}
use Rattle.declarations.proofs.descriptors.write_in_quotes.Goals as goal

pub returns : goal.returns
returns g c =
    let took = g.W.Write.write_str_gives in
    let text = quoted_bytes c.args.text.now in
    writes_then took (codes "\"") (text ++ codes "\"") c.write-2.new.self c.write-2.result refl c.in_ok-write.ensures.writes
    (writes_then took text (codes "\"") c.write-2.new.self c.write-2.result refl c.in_ok-write_quoted.ensures c.write-2.ensures.writes)
