use Rattle.declarations.proofs.Prelude.{writes_same, quoted_text, type_after, ◌≡◌, ◌∙◌, ◌++◌, false, length, refl, sym, codes, ◌==◌}
use Rattle.declarations.proofs.DescriptorLemmas.{type_there, writes_then}
use Rattle.declarations.proofs.descriptors.write_type_after.Goals as goal

pub returns : goal.returns
returns g c =
    let took = g.W.Write.write_str_gives in
    let name = c.args.name.now in
    let some : (length name == 0) ≡ false = sym c.is_empty.ensures ∙ c.if-is_empty.false in
    let end = c.write_in_quotes.new.out in
    let result = c.write_in_quotes.result in
    writes_same took c.args.out.now (codes ", " ++ quoted_text name) (type_after name) end result (type_there name some)
    (writes_then took (codes ", ") (quoted_text name) end result refl c.in_ok-write.ensures.writes c.write_in_quotes.ensures)
