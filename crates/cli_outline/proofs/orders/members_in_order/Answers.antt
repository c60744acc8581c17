use Rattle.cli_outline.proofs.Prelude.{◌≡◌, ◌∙◌, ◌+◌, suc, refl, arith, All-append, count_in, IsModel, member_of, owner_of, IsRowIn}
use Rattle.cli_outline.proofs.orders.members_in_order.Goals as goal

pub loop-earlier-init : goal.loop-earlier-init
loop-earlier-init c = record {
  same = c.new-cells.ensures;
  within = rw c.new-order.ensures.items (λ k d lt. absurd (omega (arith, lt)));
  grouped = λ model is. c.new-order.ensures.items;
}

pub loop-earlier-preserved : goal.loop-earlier-preserved
loop-earlier-preserved c =
    let before = c.loop-earlier.order.items in
    let out = rw c.member.ensures.value at c.in_ok-push_in_order.ensures in
    let owner : c.loop-earlier.earlier + 1 ≡ suc c.loop-earlier.earlier = omega arith in
    record {
      same = c.run_of-rows.ensures.same ∙ c.loop-earlier.invariant.same;
      within = rw out.1 (All-append (IsRowIn c.args.source.now.neighbours.view.now (member_of c.args.list)) before out.0 c.loop-earlier.invariant.within out.2);
      grouped = λ model is.
          let here : IsModel c.loop-earlier.cells model = rw c.loop-earlier.invariant.same is in
          rw (out.1, owner) (
            before,
            c.loop-earlier.invariant.grouped model is,
            out.0,
            rw (c.run_of-rows.ensures.begin model here, c.run_of-rows.ensures.past model here, owner) at (out.3 model is),
            refl,
          );
    }

pub returns-clause-grouped : goal.returns-clause-grouped
returns-clause-grouped c = λ model is.
    let count = rw c.owner.ensures at (c.count-earlier-end.ensures.model model is) in
    let all : c.loop-earlier.earlier ≡ count_in model (owner_of c.args.list) = omega (arith, count, c.loop-earlier-test.false, c.loop-earlier.auto.earlier-end) in
    rw all at (c.loop-earlier.invariant.grouped model is)
