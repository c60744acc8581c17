use Rattle.checks.proofs.Prelude.{HoldBefore, rules_of_signatures_in}
use Rattle.checks.proofs.signature_checks.check_signature_rows.Given as goal

abbrev pub invariant-loop-row : goal.invariant-loop-row
invariant-loop-row l = HoldBefore (rules_of_signatures_in l.source l.table) 1 l.row
