use Rattle.full_names.proofs.Prelude.{◌++◌, codes, Dotted, Member, name_text}
use Rattle.full_names.proofs.TextLemmas.{writes_last}
use Rattle.full_names.proofs.row_names.write_global_name.Goals as goal

pub returns : goal.returns
returns g c =
    writes_last g.W.Write.write_str_gives c.args.out.now (name_text Dotted c.args.scope.now) c.write_name.new.out (codes "::" ++ name_text Member c.args.name.now) c.write_own_name.new.out c.write_own_name.result
    c.in_ok-write_name.ensures c.write_own_name.ensures
