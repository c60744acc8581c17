use Rattle.row_order.proofs.Prelude.{◌≡◌, ◌-◌, ◌+◌, ◌≤◌, ◌<◌, rules_from, start_of, in_place, rules_of_start, owner_of, cell_of, member_of, IsVerdict, fault_in_row}
use Rattle.std.specs.Prelude.{IfSome}
use Rattle.row_order.proofs.runs.walk_owners.Given as goal

abbrev pub invariant-loop-row : goal.invariant-loop-row
invariant-loop-row l = record {
  row : l.row < l.count;
  first : l.first ≡ start_of l.source.source (owner_of l.fn.list) (l.row + 1) (cell_of l.fn.list) (member_of l.fn.list);
  falls : IsVerdict (rules_from (rules_of_start (in_place l.source) l.fn.list) (l.row + 2) (l.count - (l.row + 1)))
      (fault_in_row l.source (owner_of l.fn.list) (cell_of l.fn.list) l.falls);
  within : IfSome l.falls (λ r. (1 ≤ r) × (r ≤ l.count));
}

abbrev pub decreases-loop-row : goal.decreases-loop-row
decreases-loop-row l = l.row
