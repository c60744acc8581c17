use Rattle.cli_outline.proofs.Prelude.{◌∙◌, flat_map-map, TypeDef, KeyedRow, members, order_in, token_at, type_rows}
use Rattle.cli_outline.proofs.ChosenLemmas.{item_printed, items_printed}
use Rattle.cli_outline.proofs.outline.print_mapped.Goals as goal

pub loop-map-preserved : goal.loop-map-preserved
loop-map-preserved g c = record {
  same = c.print_members.ensures.same ∙ c.loop-map.invariant.same;
  lines = λ model is. item_printed (λ (map : KeyedRow). members (order_in c.args.source.now.orders.items) model c.args.list map.row) c.linked-maps.result.now c.loop-map.map-index (record { key = 0; row = 0 }) c.loop-map-test.true (c.loop-map.invariant.lines model is) (c.print_members.ensures.lines model is);
}

pub returns-clause-lines : goal.returns-clause-lines
unfolding type_rows
returns-clause-lines g c = λ model is.
    rw (← c.linked-maps.ensures.rows model is (token_at TypeDef c.args.class) c.requires.number, flat_map-map) (items_printed (λ (map : KeyedRow). members (order_in c.args.source.now.orders.items) model c.args.list map.row) c.linked-maps.result.now c.loop-map.map-index c.loop-map-test.false (c.loop-map.invariant.lines model is))
