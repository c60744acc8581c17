use Rattle.custom_attributes.proofs.Prelude.{◌≡◌, ◌≤◌, false, length, Metadata, if_few, params_from, preceded}
use Rattle.custom_attributes.proofs.signatures.params_from.Given as goal

-- the types so far, and those of the items that are left, are those of all
abbrev pub invariant-loop-item : goal.invariant-loop-item
invariant-loop-item g l = record {
  few : length l.params ≤ 64;
  types : (model : Metadata) → g.S.ReadMetadata.shows l.source model → if_few (preceded l.params (params_from model l.vector l.item-iterator)) ≡ if_few (params_from model false l.fn.items);
}
