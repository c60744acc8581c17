use Rattle.declarations.proofs.Prelude.{refl, ◌++◌, codes, Member, name_text, writes_append}
use Rattle.declarations.proofs.method_text.write_member.Goals as goal

pub returns : goal.returns
returns g c = λ model shown.
    let of = c.in_ok-write_row_name.ensures model shown in
    let own = codes "::" ++ name_text Member c.args.of.name.now in (
      of.0 ++ own,
      (of.0, of.1, refl),
      writes_append g.W.Write.write_str_gives c.args.out.now of.0 c.write_row_name.new.out own c.write_own_name.new.out of.2 c.in_ok-write_own_name.ensures,
    )
