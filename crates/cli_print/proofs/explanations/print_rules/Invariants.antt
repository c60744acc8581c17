use Rattle.cli_print.proofs.Prelude.{drop, Printed, IsRule, PrintsEach}
use Rattle.cli_print.proofs.explanations.print_rules.Given as goal

-- the lines of the rules that are left complete the report
abbrev pub invariant-loop-rule : goal.invariant-loop-rule
invariant-loop-rule g l = (later : Printed _) → PrintsEach IsRule (drop l.rule-index l.rules) l.out later → PrintsEach IsRule l.rules l.initial.out later
