use Rattle.owned_model.proofs.Prelude.{◌≡◌, subst, ◌∙◌, Metadata, row_of, all_said, kinds_of, AreOfKinds}
use Rattle.type_records.proofs.RowLemmas.{cells_are_held, cells_are_said}
use Rattle.owned_model.proofs.KindLemmas.{valid_row}
use Rattle.owned_model.proofs.rows_held.RefModelReadRows.row_at.Goals as goal

pub returns-clause-held : goal.returns-clause-held
returns-clause-held c =
    cells_are_held c.cells.result.now (kinds_of c.args.table)
    (rw c.cells.ensures (valid_row c.args.self.now.now c.tables-tables.ensures.valid c.args.table c.args.row (c.requires.first, c.requires.last)))

pub returns-clause-complete : goal.returns-clause-complete
returns-clause-complete c = λ model same cells says.
    let Q : Metadata → Type 0 = λ it. cells ≡ row_of it c.args.table c.args.row in
    let are : AreOfKinds (kinds_of c.args.table) (all_said c.cells.result.now) =
    rw c.cells.ensures (valid_row c.args.self.now.now c.tables-tables.ensures.valid c.args.table c.args.row (c.requires.first, c.requires.last)) in
    subst Q same (cells_are_said c.cells.result.now (kinds_of c.args.table) cells are says ∙ c.cells.ensures)
