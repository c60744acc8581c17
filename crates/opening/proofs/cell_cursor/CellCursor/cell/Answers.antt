use Rattle.opening.proofs.Prelude.{ℕ, List, subst, column_of, number_of, source_of, ShowsBlob}
use Rattle.opening.proofs.cell_cursor.CellCursor.cell.Goals as goal

pub returns-clause-blob : goal.returns-clause-blob
returns-clause-blob c =
    let P : List ℕ → Type 0 = λ root.
    ShowsBlob (source_of root) (number_of (source_of root) c.args.table c.args.row (column_of c.args.table c.args.column)) c.cell_in_pass.result in
    subst P c.self.view_is c.cell_in_pass.ensures.blob
