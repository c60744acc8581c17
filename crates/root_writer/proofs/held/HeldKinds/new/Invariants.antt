use Rattle.root_writer.proofs.Prelude.{◌≡◌, ◌≤◌, ◌++◌, length, ltb, filter, take, drop, size_of, kinds_in_order, held}
use Rattle.root_writer.proofs.held.HeldKinds.new.Given as goal

-- together with the kinds that are left these are all
abbrev pub invariant-loop-kind : goal.invariant-loop-kind
invariant-loop-kind l = record {
  whole : take l.count l.kinds ++ filter (λ kind. ltb 0 (size_of l.sizes kind)) (drop l.kind-index kinds_in_order) ≡ held (size_of l.sizes);
  few : l.count ≤ l.kind-index;
  long : length l.kinds ≡ 5;
}
