use Rattle.cli_info.proofs.Prelude.{flat_map, Adds, Printed, item_parts, items_parts}
use Rattle.cli_info.proofs.attributes.print_items.Given as goal

-- the parts of the items that are left complete those of all
abbrev pub invariant-loop-item : goal.invariant-loop-item
invariant-loop-item g l =
    (later : Printed _) → Adds l.out later (flat_map item_parts l.item-iterator) → Adds l.fn.out later (items_parts l.fn.items)
