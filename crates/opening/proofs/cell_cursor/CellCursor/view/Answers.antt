use Rattle.opening.proofs.Prelude.{ℕ, List, subst, HasModel}
use Rattle.opening.proofs.cell_cursor.CellCursor.view.Goals as goal

pub returns-clause-model : goal.returns-clause-model
returns-clause-model c = let P : List ℕ → Type 0 = λ root. HasModel root in subst P c.self.view_is c.root-root.ensures.model
