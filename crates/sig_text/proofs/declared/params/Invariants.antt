use Rattle.sig_text.proofs.Prelude.{◌-◌, ◌+◌, [], codes, before, core_shown, named_slots_shown}
use Rattle.sig_text.proofs.Chains.{Left}
use Rattle.sig_text.proofs.declared.params.Given as goal

abbrev pub invariant-loop-done : goal.invariant-loop-done
invariant-loop-done g l = Left g.S.TextSink.refused g.S.TextSink.gives l.fn.sink l.fn.taken (named_slots_shown (core_shown 128) [] 1 l.count l.bytes, []) l.sink l.taken (named_slots_shown (core_shown 128) (before (codes ", ") l.done) (l.done + 1) (l.count - l.done) l.tail, [])
