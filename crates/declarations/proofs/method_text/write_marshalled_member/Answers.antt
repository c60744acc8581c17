use Rattle.declarations.proofs.Prelude.{◌++◌, refl, option_map, ok_then, writes_append, before_space, marshalled}
use Rattle.declarations.proofs.method_text.write_marshalled_member.Goals as goal

pub returns : goal.returns
returns g c = λ model shown first past are.
    let how = marshalled before_space (option_map (λ blob. blob.now) c.descriptor.result) in
    ok_then c.write_member.result (c.write_member.ensures model shown)
    (λ member. (
      how ++ member.0,
      (how, c.descriptor.ensures model shown first past are before_space, member.0, member.1, refl),
      writes_append g.W.Write.write_str_gives c.args.out.now how c.write_before_space.new.out member.0 c.write_member.new.out c.in_ok-write_before_space.ensures member.2,
    ))
