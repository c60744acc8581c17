use Rattle.std.proofs.Common.{◌≡◌, ◌∙◌, ◌==◌, ◌++◌, true, false, length, rules, sym}
use Rattle.full_names.proofs.Prelude.{codes, Identifier, Dotted, name_text, type_text}
use Rattle.full_names.proofs.QuotedLemmas.{type_alone, type_after}
use Rattle.full_names.proofs.TextLemmas.{writes_last, writes_same}
use Rattle.full_names.proofs.quoted.write_type_name.Goals as goal

pub returns : goal.returns
returns g c =
    let took = g.W.Write.write_str_gives in
    let space = c.args.namespace.now in
    let name = c.args.name.now in
    let some : (length space == 0) ≡ false = sym c.is_empty.ensures ∙ c.if-is_empty.false in
    let own = name_text Identifier name in
    let inner = writes_last took c.write_name-2.new.out (codes ".") c.write.new.self own c.write_name-3.new.out c.write_name-3.result c.in_ok-write.ensures.writes c.write_name-3.ensures in
    writes_same took c.args.out.now (name_text Dotted space ++ (codes "." ++ own)) (type_text space name) c.write_name-3.new.out c.write_name-3.result (type_after space name some)
    (writes_last took c.args.out.now (name_text Dotted space) c.write_name-2.new.out (codes "." ++ own) c.write_name-3.new.out c.write_name-3.result c.in_ok-write_name.ensures inner)

pub returns-then-is_empty : goal.returns-then-is_empty
returns-then-is_empty g c =
    let space = c.args.namespace.now in
    let none : (length space == 0) ≡ true = sym c.is_empty.ensures ∙ c.if-is_empty.true in
    writes_same g.W.Write.write_str_gives c.args.out.now (name_text Identifier c.args.name.now) (type_text space c.args.name.now) c.write_name.new.out c.write_name.result (type_alone space c.args.name.now (search rules)) c.write_name.ensures
