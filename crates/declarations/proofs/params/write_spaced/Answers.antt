use Rattle.declarations.proofs.Prelude.{codes, WritesInCalls, Identifier, name_text, writes_last, writes_nothing, writes_same, spaced, rules, ◌≡◌, ◌∙◌, ◌==◌, ◌++◌, List, ℕ, true, false, length, subst, sym}
use Rattle.declarations.proofs.ParamLemmas.{spaced_after, spaced_alone}
use Rattle.declarations.proofs.params.write_spaced.Goals as goal

pub returns-then-is_empty : goal.returns-then-is_empty
returns-then-is_empty g c =
    let took = g.W.Write.write_str_gives in
    let none : (length c.args.name.now == 0) ≡ true = sym c.is_empty.ensures ∙ c.if-is_empty.true in
    subst (λ (t : List ℕ). WritesInCalls took c.args.out.now t c.args.out.now) (sym (spaced_alone c.args.name.now (search rules))) (writes_nothing took c.args.out.now)

pub returns : goal.returns
returns g c =
    let took = g.W.Write.write_str_gives in
    let name = c.args.name.now in
    let some : (length name == 0) ≡ false = sym c.is_empty.ensures ∙ c.if-is_empty.false in
    writes_same took c.args.out.now (codes " " ++ name_text Identifier name) (spaced name) c.write_name.new.out c.write_name.result (spaced_after name some)
    (writes_last took c.args.out.now (codes " ") c.write_text.new.out (name_text Identifier name) c.write_name.new.out c.write_name.result c.in_ok-write_text.ensures c.write_name.ensures)
