use Rattle.sig_grammar.specs.Views.{type_of, slot_of}
use Rattle.sig_encoder.proofs.SameLemmas.{SameFrom}
use Rattle.sig_encoder.proofs.same_types.+same.Given as goal

abbrev pub invariant-same_types-loop-index : goal.invariant-same_types-loop-index
invariant-same_types-loop-index l = SameFrom type_of l.types l.others l.index

abbrev pub invariant-same_slots-loop-index : goal.invariant-same_slots-loop-index
invariant-same_slots-loop-index l = SameFrom slot_of l.slots l.others l.index
