use Rattle.cli_outline.proofs.Prelude.{Metadata, IsModel, order_in, each_from, own_rows}
use Rattle.cli_outline.proofs.ChosenLemmas.{Completes}
use Rattle.cli_outline.proofs.chosen.print_positions.Given as goal

abbrev pub invariant-loop-position : goal.invariant-loop-position
invariant-loop-position g l = (model : Metadata) → IsModel l.source.neighbours.view.now model → Completes l.source.options model l.choice l.initial.out l.out
    (each_from (own_rows model l.table) (order_in l.source.orders.items l.table) l.position l.fn.positions.«end»)
    (each_from (own_rows model l.table) (order_in l.source.orders.items l.table) l.fn.positions.start l.fn.positions.«end»)
