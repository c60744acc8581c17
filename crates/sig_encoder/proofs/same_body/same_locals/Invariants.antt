use Rattle.sig_grammar.specs.Views.{local_of}
use Rattle.sig_encoder.proofs.SameLemmas.{SameFrom}
use Rattle.sig_encoder.proofs.same_body.same_locals.Given as goal

abbrev pub invariant-loop-index : goal.invariant-loop-index
invariant-loop-index l = SameFrom local_of l.locals l.others l.index
