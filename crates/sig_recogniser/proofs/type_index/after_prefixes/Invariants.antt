use Rattle.sig_recogniser.proofs.Prelude.{◌≡◌, length, left, remains, skip_prefixes}
use Rattle.sig_recogniser.proofs.type_index.after_prefixes.Given as goal

abbrev pub invariant-loop-here : goal.invariant-loop-here
invariant-loop-here l = skip_prefixes l.counts (left l.bytes l.here) ≡ skip_prefixes l.counts (left l.bytes l.fn.here)

abbrev pub decreases-loop-here : goal.decreases-loop-here
decreases-loop-here l = length (remains l.bytes l.here)
