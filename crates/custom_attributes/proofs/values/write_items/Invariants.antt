use Rattle.custom_attributes.proofs.TextPrelude.{◌≡◌, ◌++◌, ℕ, List, WritesInCalls, items_text}
use Rattle.custom_attributes.proofs.values.write_items.Given as goal

-- what was written, and the text of the items that are left
abbrev pub invariant-loop-item : goal.invariant-loop-item
invariant-loop-item g l =
    (text : List ℕ) × WritesInCalls g.W.Write.write_str_gives l.initial.out text l.out × (text ++ items_text l.left l.item-iterator ≡ items_text 0 l.fn.items)
