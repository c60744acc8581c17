use Rattle.cli_names.proofs.PathLemmas.{around_own, none_outside}
use Rattle.cli_names.proofs.path.outer_row.Goals as goal

pub returns-then-not-in_order-clause-around : goal.returns-then-not-in_order-clause-around
returns-then-not-in_order-clause-around c = λ model is.
    rw c.in-TypeDef.is (tt, λ outer own. let yes = (c.in_order.ensures.model model is).1 own.0 in let no = c.if-not-in_order.true in absurd cc)

pub returns-else-not-in_order-clause-around : goal.returns-else-not-in_order-clause-around
returns-else-not-in_order-clause-around c = λ model is.
    rw c.in-TypeDef.is (around_own model c.args.row c.enclosing_type.result ((c.in_order.ensures.model model is).0 c.if-not-in_order.false)
    (c.enclosing_type.ensures.sound model is) (c.enclosing_type.ensures.none model is))

pub returns-in-TypeRef-clause-around : goal.returns-in-TypeRef-clause-around
returns-in-TypeRef-clause-around c = λ model is. rw c.in-TypeRef.is (c.enclosing_type_ref.ensures.sound model is, c.enclosing_type_ref.ensures.none model is)

pub returns-in_default-clause-around : goal.returns-in_default-clause-around
returns-in_default-clause-around c = λ model is. (tt, λ outer at. none_outside model c.args.table c.args.row outer c.in_default.not-TypeDef c.in_default.not-TypeRef at)
