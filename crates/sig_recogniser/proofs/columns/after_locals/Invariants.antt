use Rattle.sig_recogniser.proofs.Prelude.{◌≡◌, ◌-◌, left, skip_many, skip_local, skip_core}
use Rattle.sig_recogniser.proofs.columns.after_locals.Given as goal

abbrev pub invariant-loop-done : goal.invariant-loop-done
invariant-loop-done l =
    skip_many (skip_local l.counts (skip_core l.counts l.depth)) (l.count - l.done) (left l.bytes l.here) ≡ skip_many (skip_local l.counts (skip_core l.counts l.depth)) l.count (left l.bytes l.fn.here)
