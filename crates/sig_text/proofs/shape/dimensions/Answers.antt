use Rattle.sig_text.proofs.Prelude.{rules, arith, ◌≡◌, ◌<◌, ◌-◌, ◌+◌, refl, codes, before}
use Rattle.sig_text.proofs.Chains.{pieces_first, start_left, end_left, shut_left}
use Rattle.sig_text.proofs.ShapeShown.{dimensions_next, dimensions_end}
use Rattle.sig_text.proofs.shape.dimensions.Goals as goal

pub loop-done-init : goal.loop-done-init
loop-done-init g c = let e : c.args.count - 0 ≡ c.args.count = omega arith in start_left (rw e refl)

pub loop-done-preserved : goal.loop-done-preserved
loop-done-preserved g c =
    let lt : 0 < c.args.count - c.loop-done.done = omega arith in
    let less : c.args.count - (c.loop-done.done + 1) ≡ c.args.count - c.loop-done.done - 1 = omega arith in
    record {
      goes = λ new after end h. c.loop-done.invariant.goes new after end
          (rw (dimensions_next (before (codes ",") c.loop-done.done) (c.args.count - c.loop-done.done) c.loop-done.done (c.loop-done.sizes_left, c.loop-done.size_bytes.now) (c.loop-done.low_left, c.loop-done.low_bytes.now) lt, ← c.next_size-size.ensures, ← c.next_low-low.ensures, ← less)
          (pieces_first c.put_if.ensures (pieces_first c.dimension.ensures h)));
    }

pub returns-then-not-taken : goal.returns-then-not-taken
returns-then-not-taken g c = shut_left c.loop-done.low_bytes.now (search rules) c.loop-done.invariant

pub returns : goal.returns
returns g c =
    let e : c.args.count - c.loop-done.done ≡ 0 = omega arith in
    end_left (dimensions_end (before (codes ",") c.loop-done.done) (c.args.count - c.loop-done.done) (c.loop-done.sizes_left, c.loop-done.size_bytes.now) (c.loop-done.low_left, c.loop-done.low_bytes.now) e) c.loop-done.invariant
