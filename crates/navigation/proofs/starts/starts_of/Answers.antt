use Rattle.navigation.proofs.Prelude.{◌∙◌, ◌+◌, length, ap, arith, length_push, cell_in, start_in}
use Rattle.metadata.specs.MemberLists.{cell_of, owner_of}
use Rattle.navigation.proofs.StartLemmas.{one_more}
use Rattle.navigation.proofs.starts.starts_of.Goals as goal

pub loop-earlier-init : goal.loop-earlier-init
loop-earlier-init c = record {
  same = c.new-cells.ensures;
  long = ap length c.in_ok-starts.ensures.items;
  are = λ model is k within. absurd (let none = ap length c.in_ok-starts.ensures.items in omega (arith, within, none));
}

pub run-run-requires : goal.run-run-requires
run-run-requires c =
    let rows = rw c.owner.ensures at c.count-owners.ensures.rows in record { first = omega arith; last = rw c.loop-earlier.invariant.same (omega (arith, rows, c.loop-earlier-test.true)) }

pub loop-earlier-preserved : goal.loop-earlier-preserved
loop-earlier-preserved c =
    let starts = c.loop-earlier.starts.items in
    let start = c.run-run.result.start in
    let list = c.args.list in
    let pushed = c.in_ok-push.ensures.items in
    record {
      same = c.run-run.ensures.same ∙ c.loop-earlier.invariant.same;
      long = ap length pushed ∙ length_push starts start ∙ ap (λ n. n + 1) c.loop-earlier.invariant.long;
      are = rw pushed (λ model is. one_more (λ k. start_in (cell_in model (owner_of list) (k + 1) (cell_of list))) starts start c.loop-earlier.earlier c.loop-earlier.invariant.long (c.loop-earlier.invariant.are model is)
          (ap start_in (c.run-run.ensures.run model (rw c.loop-earlier.invariant.same is)).start));
    }
