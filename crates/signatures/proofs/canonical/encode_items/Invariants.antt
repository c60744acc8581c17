use Rattle.signatures.proofs.Prelude.{◌≡◌, ◌++◌, AllByRecursion, encoded_item, HasItemEncoding}
use Rattle.std.specs.Prelude.{flat_map}
use Rattle.signatures.proofs.canonical.encode_items.Given as goal

-- the items that are left complete what is written
abbrev pub invariant-loop-item : goal.invariant-loop-item
invariant-loop-item l = record {
  written : l.bytes.items ++ flat_map encoded_item l.item-iterator ≡ flat_map encoded_item l.fn.items;
  encodable : AllByRecursion HasItemEncoding l.item-iterator;
}
