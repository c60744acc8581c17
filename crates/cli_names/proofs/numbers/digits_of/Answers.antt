use Rattle.std.proofs.Common.{◌∙◌, ◌++◌, ap, codes, sym}
use Rattle.cli_names.proofs.NumbersRead.{after_prefix, without_prefix}
use Rattle.cli_names.proofs.numbers.digits_of.Goals as goal

pub returns : goal.returns
returns c =
    let strips = c.in-Some.ensures.cases in
    after_prefix c.args.word.now c.in-Some.digits.now (strips.1.1 ∙ ap (λ ds. codes "0x" ++ ds) (sym strips.2))

pub returns-in_default : goal.returns-in_default
returns-in_default c = without_prefix c.args.word.now c.in_default.ensures.cases
