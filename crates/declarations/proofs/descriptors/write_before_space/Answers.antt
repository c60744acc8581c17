use Rattle.declarations.proofs.Prelude.{refl, sym, ap, codes, option_map, writes_same, before_space, marshalled, marshal_text}
use Rattle.declarations.proofs.DescriptorLemmas.{writes_then}
use Rattle.declarations.proofs.descriptors.write_before_space.Goals as goal

pub returns-in_ok-write_marshal-in-Some : goal.returns-in_ok-write_marshal-in-Some
returns-in_ok-write_marshal-in-Some g c =
    let took = g.W.Write.write_str_gives in
    let text = marshal_text c.in-Some.blob.now in
    writes_same took c.args.out.now (before_space text) (marshalled before_space (option_map (λ of. of.now) c.args.blob)) c.write.new.self c.write.result
    (sym (ap (λ o. marshalled before_space (option_map (λ of. of.now) o)) c.in-Some.is))
    (writes_then took text (codes " ") c.write.new.self c.write.result refl c.in_ok-write_marshal-in-Some.ensures c.write.ensures.writes)
