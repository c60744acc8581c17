use Rattle.cli_info.proofs.Prelude.{◌≡◌, arith}
use Rattle.std.proofs.lemmas.Bool.{ne_eqb}
use Rattle.cli_info.proofs.attributes.print_more.Goals as goal

pub returns-then-number-gt0 : goal.returns-then-number-gt0
returns-then-number-gt0 g c = rw (ne_eqb c.args.number 0 (λ none. let is : c.args.number ≡ 0 = none in absurd (omega (arith, is, c.if-number-gt0.true)))) c.line.ensures

pub returns-else-number-gt0 : goal.returns-else-number-gt0
returns-else-number-gt0 g c = let none : c.args.number ≡ 0 = omega arith in rw none (c.lines_follow.ensures.nothing _)
