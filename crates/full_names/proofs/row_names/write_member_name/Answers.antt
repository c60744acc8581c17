use Rattle.full_names.proofs.Prelude.{refl, ◌++◌, codes, Member, name_text}
use Rattle.full_names.proofs.TextLemmas.{writes_append}
use Rattle.full_names.proofs.row_names.write_member_name.Goals as goal

pub returns : goal.returns
returns g c = λ model shown.
    let of = c.in_ok-write_full_name_within.ensures.name model shown in
    let own = codes "::" ++ name_text Member c.args.name.now in (
      of.0 ++ own,
      (of.0, of.1, refl),
      writes_append g.W.Write.write_str_gives c.args.out.now of.0 c.write_full_name_within.new.out own c.write_own_name.new.out of.2 c.in_ok-write_own_name.ensures,
    )
