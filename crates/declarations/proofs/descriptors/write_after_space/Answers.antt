use Rattle.declarations.proofs.Prelude.{refl, sym, ap, codes, option_map, writes_same, after_space, marshalled, marshal_text}
use Rattle.declarations.proofs.DescriptorLemmas.{writes_then}
use Rattle.declarations.proofs.descriptors.write_after_space.Goals as goal

pub returns-in_ok-write-in-Some : goal.returns-in_ok-write-in-Some
returns-in_ok-write-in-Some g c =
    let took = g.W.Write.write_str_gives in
    let text = marshal_text c.in-Some.blob.now in
    let end = c.write_marshal.new.out in
    let result = c.write_marshal.result in
    writes_same took c.args.out.now (after_space text) (marshalled after_space (option_map (λ of. of.now) c.args.blob)) end result
    (sym (ap (λ o. marshalled after_space (option_map (λ of. of.now) o)) c.in-Some.is))
    (writes_then took (codes " ") text end result refl c.in_ok-write-in-Some.ensures.writes c.write_marshal.ensures)
