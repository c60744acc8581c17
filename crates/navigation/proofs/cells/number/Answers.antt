use Rattle.navigation.proofs.Prelude.{not_there, cell_in, kind_at}
use Rattle.navigation.proofs.CellLemmas.{of_kind, shows_number}
use Rattle.navigation.proofs.cells.number.Goals as goal

pub unreachable-requires : goal.unreachable-requires
unreachable-requires g c = not_there c.holds_one.ensures.shown (λ some.
    shows_number (kind_at c.args.table c.args.cell) c.cell.result (cell_in some.0 c.args.table c.args.row c.args.cell) (c.cell.ensures some.0 some.1)
    (of_kind some.0 (c.holds_one.ensures.valid some.0 some.1) c.args.table c.args.row c.args.cell _ (c.holds_one.ensures.rows some.0 some.1 c.args.table) c.requires.first c.requires.last c.requires.cell) c.requires.kind c.in_default.not-Number)
