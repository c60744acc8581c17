use Rattle.tables.proofs.Prelude.{HoldBefore, in_memory, rules_of_start}
use Rattle.tables.proofs.links.check_run.Given as goal

abbrev pub invariant-loop-row : goal.invariant-loop-row
invariant-loop-row l = HoldBefore (rules_of_start (in_memory l.counted) l.fn.list) 2 l.row
