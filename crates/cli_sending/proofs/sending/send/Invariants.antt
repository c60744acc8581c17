use Rattle.cli_sending.specs.Sent.{Sends}
use Rattle.cli_sending.proofs.sending.send.Given as goal

abbrev pub invariant-loop-turn : goal.invariant-loop-turn
invariant-loop-turn g l = Sends (g.W.Write.contents l.initial.out) (g.W.Write.contents l.out) l.bytes l.tail
