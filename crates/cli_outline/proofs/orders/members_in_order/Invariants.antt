use Rattle.cli_outline.proofs.Prelude.{◌≡◌, All, Metadata, IsModel, member_of, AreMembers, IsRowIn}
use Rattle.cli_outline.proofs.orders.members_in_order.Given as goal

-- the members of the first owners are in order
abbrev pub invariant-loop-earlier : goal.invariant-loop-earlier
invariant-loop-earlier l = record {
  same : l.cells ≡ l.source.neighbours.view.now;
  within : All (IsRowIn l.source.neighbours.view.now (member_of l.list)) l.order.items;
  grouped : (model : Metadata) → IsModel l.source.neighbours.view.now model → AreMembers l.source.options model l.list l.earlier l.order.items;
}
