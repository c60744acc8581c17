use Rattle.declarations.proofs.Prelude.{◌++◌, refl, codes, content_text, descriptor_in}
use Rattle.declarations.proofs.DescriptorLemmas.{writes_then}
use Rattle.declarations.proofs.descriptors.write_marshal.Goals as goal

pub returns : goal.returns
returns g c =
    let took = g.W.Write.write_str_gives in
    let text = content_text (descriptor_in c.args.blob.now) c.args.blob.now in
    writes_then took (codes "marshal(") (text ++ codes ")") c.write-2.new.self c.write-2.result refl c.in_ok-write.ensures.writes
    (writes_then took text (codes ")") c.write-2.new.self c.write-2.result refl c.in_ok-write_content.ensures c.write-2.ensures.writes)
