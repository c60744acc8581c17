use Rattle.cli_outline.proofs.Prelude.{drop, flat_map, Metadata, IsModel, order_in, all_rows}
use Rattle.cli_outline.proofs.ChosenLemmas.{Completes}
use Rattle.cli_outline.proofs.chosen.print_chosen.Given as goal

abbrev pub invariant-loop-table : goal.invariant-loop-table
invariant-loop-table g l = (model : Metadata) → IsModel l.source.neighbours.view.now model → Completes l.source.options model l.choice l.initial.out l.out
    (flat_map (all_rows (order_in l.source.orders.items) model) (drop l.table-index l.tables)) (flat_map (all_rows (order_in l.source.orders.items) model) l.tables)
