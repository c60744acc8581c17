use Rattle.cli_print.specs.Explanations.{BeginsWords}
use Rattle.cli_print.proofs.explanations.print_item.Given as goal

abbrev pub invariant-loop-word : goal.invariant-loop-word
invariant-loop-word g l = BeginsWords l.fn.out l.out
