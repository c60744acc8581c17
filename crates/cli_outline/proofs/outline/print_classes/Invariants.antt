use Rattle.cli_outline.proofs.Prelude.{◌≡◌, ◌+◌, TypeDef, Metadata, count_in, IsModel, order_in, class_rows, each_from}
use Rattle.cli_names.specs.declared.chosen.Choice.TheVariants.{All}
use Rattle.cli_outline.proofs.ChosenLemmas.{Completes}
use Rattle.cli_outline.proofs.outline.print_classes.Given as goal

abbrev pub invariant-loop-position : goal.invariant-loop-position
invariant-loop-position g l = record {
  same : l.cells ≡ l.source.neighbours.view.now;
  lines : (model : Metadata) → IsModel l.source.neighbours.view.now model → Completes l.source.options model All l.initial.out l.out
      (each_from (class_rows (order_in l.source.orders.items) model) (order_in l.source.orders.items TypeDef) l.position (count_in model TypeDef + 1))
      (each_from (class_rows (order_in l.source.orders.items) model) (order_in l.source.orders.items TypeDef) 1 (count_in model TypeDef + 1));
}
