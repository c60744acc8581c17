use Rattle.tables.proofs.Prelude.{HoldBefore, in_memory, rules_of_nesting_in}
use Rattle.tables.proofs.links.check_nesting.Given as goal

abbrev pub invariant-loop-row : goal.invariant-loop-row
invariant-loop-row l = HoldBefore (rules_of_nesting_in (in_memory l.counted)) 1 l.row
