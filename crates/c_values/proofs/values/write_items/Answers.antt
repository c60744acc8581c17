use Rattle.blob_values.specs.Views.{view}
use Rattle.c_values.specs.Items.{fields_of, item_fields}
use Rattle.c_values.proofs.ItemLemmas.{all_written, one_more, past_room}
use Rattle.c_values.proofs.values.write_items.Goals.{else-count-items, then-count-items}
use Rattle.c_values.proofs.values.write_items.Goals as goal

pub loop-item-preserved : goal.loop-item-preserved
loop-item-preserved c =
    let found = c.args.found in
    let before = c.args.items.now in
    let left = c.loop-item.item-iterator in
    let tail = c.next.new.self in
    let items = c.loop-item.items in
    let count = c.loop-item.count in
    let item = view c.in-Some.item in
    elim c.if-count-items.branch [
      | then-count-items w ↦
          rw w.items-is
          (one_more item_fields fields_of found before left tail items count item w.reported.result c.in-Some.ensures.steps w.reported.ensures w.if-count-items.true c.loop-item.invariant)
      | else-count-items w ↦
          rw w.items-is
          (past_room item_fields fields_of found before left tail items count item c.in-Some.ensures.steps w.if-count-items.false c.loop-item.invariant)
    ]

pub returns : goal.returns
returns c =
    let all = all_written item_fields fields_of c.args.found c.args.items.now c.loop-item.items c.loop-item.count (rw c.in-None.ensures.steps.0 at c.loop-item.invariant) in
    record { count = all.0; written = record { written = all.1; same = all.2 } }
