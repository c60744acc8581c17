use Rattle.sig_text.proofs.Prelude.{rules, arith, ◌≡◌, ◌<◌, ◌-◌, ◌+◌, [], ◌∷◌, List, ℕ, ap, refl, codes, Piece, param_name, core_shown, before, named_slots_shown}
use Rattle.sig_text.proofs.Chains.{pass_on, pieces_first, start_left, end_left, shut_left}
use Rattle.sig_text.proofs.ShapeShown.{named_more, named_end}
use Rattle.sig_text.proofs.declared.params.Goals as goal

pub loop-done-init : goal.loop-done-init
loop-done-init g c = let e : c.args.count - 0 ≡ c.args.count = omega arith in start_left (rw e refl)

pub loop-done-preserved : goal.loop-done-preserved
loop-done-preserved g c =
    let lt : 0 < c.args.count - c.loop-done.done = omega arith in
    let less : c.args.count - (c.loop-done.done + 1) ≡ c.args.count - c.loop-done.done - 1 = omega arith in
    record {
      goes = λ new after end h. c.loop-done.invariant.goes new after end
          (rw (named_more (core_shown 128) (before (codes ", ") c.loop-done.done) (c.loop-done.done + 1) (c.args.count - c.loop-done.done) c.loop-done.done c.loop-done.tail.now lt, ← c.sentinel-found.ensures.behind, ← c.sentinel-found.ensures.marked, ← less)
          (pieces_first c.put_if.ensures (pieces_first c.put_if-in-loop-done.ensures (pieces_first c.put_param_flags.ensures (pieces_first c.slot-tail.ensures.wrote
          (pass_on (λ (b : List ℕ). (param_name (c.loop-done.done + 1) ∷ named_slots_shown (core_shown 128) (before (codes ", ") (c.loop-done.done + 1)) (c.loop-done.done + 1 + 1) (c.args.count - (c.loop-done.done + 1)) b, [])) c.slot-tail.ensures
          (pieces_first c.put_param_name.ensures h)))))));
    }

pub returns-then-not-taken : goal.returns-then-not-taken
returns-then-not-taken g c = (shut_left [] (search rules) c.loop-done.invariant).wrote

pub returns : goal.returns
returns g c =
    let e : c.args.count - c.loop-done.done ≡ 0 = omega arith in
    let none = named_end (core_shown 128) (before (codes ", ") c.loop-done.done) (c.loop-done.done + 1) (c.args.count - c.loop-done.done) c.loop-done.tail.now e in
    (end_left {end = []} (ap (λ (t : List Piece). (t, [])) none) c.loop-done.invariant).wrote
