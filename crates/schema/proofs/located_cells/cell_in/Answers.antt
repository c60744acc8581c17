use Rattle.schema.proofs.Prelude.{ℕ, subst, HasCell}
use Rattle.schema.proofs.LocatedCellLemmas.{in_row, one_row}
use Rattle.schema.proofs.located_cells.cell_in.Goals as goal

pub returns-in_err-row-clause-none : goal.returns-in_err-row-clause-none
returns-in_err-row-clause-none c =
    rw c.from_residual.ensures (λ row column has. c.in_err-row.ensures.none row (in_row c.args.layout.now c.args.table row column c.args.offset has))

pub returns-in_err-column-clause-none : goal.returns-in_err-column-clause-none
returns-in_err-column-clause-none c =
    let sizes = c.args.layout.now in
    rw c.from_residual-in_err-column.ensures (λ row column has.
    let same = one_row sizes c.args.table row c.in_ok-row.row c.args.offset (in_row sizes c.args.table row column c.args.offset has) c.in_ok-row.ensures.sound in
    c.in_err-column.ensures.none column (subst (λ (r : ℕ). HasCell sizes c.args.table r column c.args.offset) same has))
