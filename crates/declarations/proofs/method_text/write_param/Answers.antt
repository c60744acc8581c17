use Rattle.declarations.proofs.Prelude.{◌++◌, refl, option_map, ok_then, writes_append, after_space, marshalled, spaced}
use Rattle.declarations.proofs.method_text.write_param.Goals as goal

pub returns : goal.returns
returns g c = λ model shown first past are.
    let how = marshalled after_space (option_map (λ blob. blob.now) c.descriptor.result) in
    let own = spaced c.name.result.now in
    ok_then c.write_spaced.result c.write_spaced.ensures
    (λ wrote. (
      how ++ own,
      (how, c.descriptor.ensures model shown first past are after_space, own, c.name.ensures model shown first past are, refl),
      writes_append g.W.Write.write_str_gives c.args.out.now how c.write_after_space.new.out own c.write_spaced.new.out c.in_ok-write_after_space.ensures wrote,
    ))
