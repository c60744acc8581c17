use Rattle.full_names.proofs.Prelude.{◌++◌, codes, Dotted, name_text}
use Rattle.full_names.proofs.TextLemmas.{writes_last}
use Rattle.full_names.proofs.scopes.write_in_brackets.Goals as goal

pub returns : goal.returns
returns g c =
    let took = g.W.Write.write_str_gives in
    let own = name_text Dotted c.args.name.now in
    writes_last took c.args.out.now c.args.mark.now c.write_text.new.out (own ++ codes "]") c.write_text-2.new.out c.write_text-2.result c.in_ok-write_text.ensures
    (writes_last took c.write_text.new.out own c.write_name.new.out (codes "]") c.write_text-2.new.out c.write_text-2.result c.in_ok-write_name.ensures c.write_text-2.ensures)
