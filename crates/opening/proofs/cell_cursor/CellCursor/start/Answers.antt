use Rattle.opening.proofs.Prelude.{List, ℕ, sym, subst, IsModel}
use Rattle.opening.proofs.cell_cursor.CellCursor.start.Goals as goal

pub returns-clause-start : goal.returns-clause-start
returns-clause-start c = λ model is.
    let here : IsModel c.self.inside.view.now model = subst (λ (root : List ℕ). IsModel root model) (sym c.self.view_is) is in
    c.start_at.ensures.start model (c.source.ensures.read model here)
