-- The items of the signatures in cells (ECMA-335 II.23.2).
use Rattle.std.specs.Prelude.{Bool, true, false, List, []}
use Rattle.sig_items.specs.declared.item.Item.{Item}
use Rattle.sig_items.specs.declared.item.Item.TheVariants as item
use Rattle.sig_items.specs.ItemsOf.{items_of}
use Rattle.metadata.specs.Cell.{Cell, Sig}

-- the items of a signature
abbrev pub items_in : Cell → List Item
items_in (Sig of) = items_of of
items_in _ = []

abbrev pub is_method : Item → Bool
is_method (item.Method head) = true
is_method _ = false

abbrev pub is_void : Item → Bool
is_void item.Void = true
is_void _ = false
