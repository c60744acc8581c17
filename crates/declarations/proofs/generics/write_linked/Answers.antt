use Rattle.declarations.proofs.Prelude.{length, is_none, is_some}
use Rattle.declarations.proofs.GenericLemmas.{no_rows, some_rows}
use Rattle.declarations.proofs.generics.write_linked.Goals as goal

pub returns-then-is_empty : goal.returns-then-is_empty
returns-then-is_empty g c = λ model is.
    let none = is_none (length c.args.links.generics.now) c.is_empty.result c.is_empty.ensures c.if-is_empty.true in
    no_rows g.W.Write.write_str_gives g.L.Limit.scopes model c.args.links.generics.now c.args.count c.args.out.now _ none c.in_ok-write_arity.ensures

pub returns : goal.returns
returns g c = λ model is.
    some_rows g.W.Write.write_str_gives g.L.Limit.scopes model c.args.links.generics.now c.args.count c.args.out.now _ _ _
    (is_some (length c.args.links.generics.now) c.is_empty.result c.is_empty.ensures c.if-is_empty.false) c.in_ok-write_text.ensures (c.in_ok-write_items.ensures model is) c.in_ok-write_text-2.ensures
