use Rattle.declarations.proofs.Prelude.{◌++◌, refl, codes, type_after, variant_text}
use Rattle.declarations.proofs.DescriptorLemmas.{writes_then}
use Rattle.declarations.proofs.descriptors.write_safe_array.Goals as goal

pub returns : goal.returns
returns g c =
    let took = g.W.Write.write_str_gives in
    let of = variant_text c.args.of in
    let name = type_after c.args.name.now in
    let end = c.write_type_after.new.out in
    let result = c.write_type_after.result in
    writes_then took (codes "safearray") (of ++ name) end result refl c.in_ok-write.ensures.writes
    (writes_then took of name end result refl c.in_ok-write_variant.ensures c.write_type_after.ensures)
