use Rattle.sig_text.proofs.Prelude.{◌+◌, ◌*◌, ◌-◌, [], codes, before, core_shown, listed_shown}
use Rattle.sig_text.proofs.Chains.{Left}
use Rattle.sig_text.proofs.types.+text.Given as goal

abbrev pub decreases-core : goal.decreases-core
decreases-core g l = 8 * l.depth

abbrev pub decreases-coded : goal.decreases-coded
decreases-coded g l = 8 * l.depth + 7

abbrev pub decreases-by_ref : goal.decreases-by_ref
decreases-by_ref g l = 8 * l.depth + 1

abbrev pub decreases-content : goal.decreases-content
decreases-content g l = 8 * l.depth + 2

abbrev pub decreases-slot : goal.decreases-slot
decreases-slot g l = 8 * l.depth + 3

abbrev pub decreases-around : goal.decreases-around
decreases-around g l = 8 * l.depth + 4

abbrev pub decreases-listed : goal.decreases-listed
decreases-listed g l = 8 * l.depth + 4

abbrev pub decreases-enclosed : goal.decreases-enclosed
decreases-enclosed g l = 8 * l.depth + 5

abbrev pub decreases-instance : goal.decreases-instance
decreases-instance g l = 8 * l.depth + 6

abbrev pub decreases-method : goal.decreases-method
decreases-method g l = 8 * l.depth + 6

abbrev pub invariant-listed-loop-done : goal.invariant-listed-loop-done
invariant-listed-loop-done g l = Left g.S.TextSink.refused g.S.TextSink.gives l.fn.sink l.fn.taken (listed_shown (core_shown l.depth) [] l.count l.bytes) l.sink l.taken (listed_shown (core_shown l.depth) (before (codes ", ") l.done) (l.count - l.done) l.tail)
