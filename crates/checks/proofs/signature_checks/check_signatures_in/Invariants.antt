use Rattle.checks.proofs.Prelude.{HoldBefore, rules_of_signature}
use Rattle.checks.proofs.signature_checks.check_signatures_in.Given as goal

abbrev pub invariant-loop-column : goal.invariant-loop-column
invariant-loop-column l = HoldBefore (rules_of_signature l.source l.table l.row) 0 l.column
