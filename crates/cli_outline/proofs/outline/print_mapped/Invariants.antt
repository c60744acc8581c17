use Rattle.cli_outline.proofs.Prelude.{◌≡◌, drop, flat_map, Metadata, IsModel, KeyedRow, order_in, members}
use Rattle.cli_names.specs.declared.chosen.Choice.TheVariants.{All}
use Rattle.cli_outline.proofs.ChosenLemmas.{Completes}
use Rattle.cli_outline.proofs.outline.print_mapped.Given as goal

abbrev pub invariant-loop-map : goal.invariant-loop-map
invariant-loop-map g l = record {
  same : l.cells ≡ l.source.neighbours.view.now;
  lines : (model : Metadata) → IsModel l.source.neighbours.view.now model → Completes l.source.options model All l.initial.out l.out
      (flat_map (λ (map : KeyedRow). members (order_in l.source.orders.items) model l.list map.row) (drop l.map-index l.maps))
      (flat_map (λ (map : KeyedRow). members (order_in l.source.orders.items) model l.list map.row) l.maps);
}
