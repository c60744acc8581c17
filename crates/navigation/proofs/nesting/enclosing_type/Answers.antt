use Rattle.navigation.proofs.Prelude.{∥∥₁_elim, le_prop}
use Rattle.navigation.proofs.nesting.enclosing_type.Goals as goal

pub returns-in-Some-clause-before : goal.returns-in-Some-clause-before
returns-in-Some-clause-before g c =
    ∥∥₁_elim c.holds_one.ensures.shown le_prop (λ some.
    let model = some.0 in
    let nesting = (c.in-Some.ensures.sound model some.1).nesting in
    let behind = (c.holds_one.ensures.valid model some.1).linked.nested c.in-Some.nesting nesting.0.0 nesting.0.1 in
    rw (c.target.ensures.value model some.1, nesting.1) at behind)
