use Rattle.navigation.proofs.Prelude.{not_there, cell_in}
use Rattle.navigation.proofs.CellLemmas.{of_kind, shows_text}
use Rattle.navigation.proofs.cells.text.Goals as goal

pub unreachable-requires : goal.unreachable-requires
unreachable-requires g c = not_there c.holds_one.ensures.shown (λ some.
    shows_text c.cell.result (cell_in some.0 c.args.table c.args.row c.args.cell) (rw c.requires.kind at (c.cell.ensures some.0 some.1))
    (rw c.requires.kind at (of_kind some.0 (c.holds_one.ensures.valid some.0 some.1) c.args.table c.args.row c.args.cell _ (c.holds_one.ensures.rows some.0 some.1 c.args.table) c.requires.first c.requires.last c.requires.cell)) c.in_default.not-Text)
