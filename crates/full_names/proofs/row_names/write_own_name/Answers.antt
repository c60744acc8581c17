use Rattle.full_names.proofs.Prelude.{codes, Member, name_text}
use Rattle.full_names.proofs.TextLemmas.{writes_last}
use Rattle.full_names.proofs.row_names.write_own_name.Goals as goal

pub returns : goal.returns
returns g c = writes_last g.W.Write.write_str_gives c.args.out.now (codes "::") c.write_text.new.out (name_text Member c.args.name.now) c.write_name.new.out c.write_name.result c.in_ok-write_text.ensures c.write_name.ensures
