use Rattle.c_values.specs.Items.{fields_of, item_fields}
use Rattle.c_values.proofs.ItemLemmas.{AreWritten}
use Rattle.c_values.proofs.values.write_items.Given as goal

-- the items so far are written, up to the room that there is
abbrev pub invariant-loop-item : goal.invariant-loop-item
invariant-loop-item l = AreWritten item_fields fields_of l.fn.found l.fn.items l.item-iterator l.items l.count
