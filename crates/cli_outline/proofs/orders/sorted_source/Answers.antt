use Rattle.cli_outline.proofs.Prelude.{IsModel}
use Rattle.cli_outline.proofs.orders.sorted_source.Goals as goal

pub returns-in_ok-source-in-ByName-clause-order : goal.returns-in_ok-source-in-ByName-clause-order
returns-in_ok-source-in-ByName-clause-order c = λ model is.
    let here : IsModel c.in_ok-source.source.neighbours.view.now model = rw c.in_ok-source.ensures.view is in
    rw (c.in-ByName.is, ← c.in_ok-source.ensures.options) (c.in_ok-source-in-ByName.ensures.order model here)
