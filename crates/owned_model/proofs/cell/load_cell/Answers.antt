use Rattle.owned_model.proofs.Prelude.{∥∥₁_map, cell_in}
use Rattle.owned_model.proofs.cell.load_cell.Goals as goal

pub own_cell-requires : goal.own_cell-requires
own_cell-requires c =
    ∥∥₁_map c.root-root.ensures.model (λ some.
    (cell_in some.0 c.args.table c.args.row c.args.column, rw (c.columns.ensures, c.column_of_cell.ensures.value) (c.cell.ensures.cell some.0 some.1)))
