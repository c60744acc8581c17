use Rattle.sig_text.proofs.Prelude.{◌-◌, [], codes, before, dimensions_shown}
use Rattle.sig_text.proofs.Chains.{Left}
use Rattle.sig_text.proofs.shape.dimensions.Given as goal

abbrev pub invariant-loop-done : goal.invariant-loop-done
invariant-loop-done g l = Left g.S.TextSink.refused g.S.TextSink.gives l.fn.sink l.fn.taken (dimensions_shown [] l.count (l.size_count, l.sizes) (l.low_count, l.bounds)) l.sink l.taken (dimensions_shown (before (codes ",") l.done) (l.count - l.done) (l.sizes_left, l.size_bytes) (l.low_left, l.low_bytes))
