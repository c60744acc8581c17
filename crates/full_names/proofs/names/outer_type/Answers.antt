use Rattle.full_names.proofs.Prelude.{IsEnclosed, IsOuter}
use Rattle.full_names.proofs.PieceLemmas.{on_none, on_some}
use Rattle.full_names.proofs.names.outer_type.Goals as goal

pub returns-then-not-in_order-clause-none : goal.returns-then-not-in_order-clause-none
returns-then-not-in_order-clause-none g c = λ model shown outer is.
    let yes = (c.in_order.ensures model shown).1 is.0 in
    let no = c.if-not-in_order.true in
    absurd cc

pub returns-clause-sound : goal.returns-clause-sound
returns-clause-sound g c = λ model shown.
    let ordered = (c.in_order.ensures model shown).0 c.if-not-in_order.false in
    on_some (IsEnclosed model c.args.row) (IsOuter model c.args.row) c.enclosing_type.result (c.enclosing_type.ensures.sound model shown) (λ outer is. (ordered, is))

pub returns-clause-none : goal.returns-clause-none
returns-clause-none g c = λ model shown.
    on_none c.enclosing_type.result (c.enclosing_type.ensures.none model shown) (λ none outer is. none is.1.row is.1.nesting.nesting)
