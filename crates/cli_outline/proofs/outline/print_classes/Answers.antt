use Rattle.cli_outline.proofs.Prelude.{◌<◌, ◌≤◌, ◌+◌, ◌∙◌, arith, TypeDef, class_rows, count_in, order_in}
use Rattle.cli_outline.proofs.ChosenLemmas.{position_printed, positions_printed}
use Rattle.cli_outline.proofs.outline.print_classes.Goals as goal

pub loop-position-preserved : goal.loop-position-preserved
loop-position-preserved g c = record {
  same = c.print_class.ensures.same ∙ c.loop-position.invariant.same;
  lines = λ model is.
      let lt : c.loop-position.position < count_in model TypeDef + 1 = omega (arith, c.count-count.ensures.model model is, c.loop-position-test.true) in
      position_printed (class_rows (order_in c.args.source.now.orders.items) model) (order_in c.args.source.now.orders.items TypeDef) c.loop-position.position (count_in model TypeDef + 1) lt (c.loop-position.invariant.lines model is) (rw c.row_at-row.ensures.row at (c.print_class.ensures.lines model is));
}

pub returns : goal.returns
returns g c = λ model is.
    let le : count_in model TypeDef + 1 ≤ c.loop-position.position = omega (arith, c.count-count.ensures.model model is, c.loop-position-test.false) in
    positions_printed (class_rows (order_in c.args.source.now.orders.items) model) (order_in c.args.source.now.orders.items TypeDef) c.loop-position.position (count_in model TypeDef + 1) le (c.loop-position.invariant.lines model is)
