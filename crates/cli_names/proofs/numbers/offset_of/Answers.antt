use Rattle.std.proofs.Common.{◌∙◌, ◌++◌, ap, codes, sym}
use Rattle.cli_names.proofs.NumbersRead.{decimal_read, hexadecimal_read}
use Rattle.cli_names.proofs.numbers.offset_of.Goals as goal

pub returns-in-Some : goal.returns-in-Some
returns-in-Some c =
    let strips = c.in-Some.ensures.cases in
    hexadecimal_read c.args.word.now c.in-Some.digits.now c.number_of.result
    (strips.1.1 ∙ ap (λ ds. codes "0x" ++ ds) (sym strips.2)) c.number_of.ensures

pub returns-in-None : goal.returns-in-None
returns-in-None c = decimal_read c.args.word.now c.number_of-in-None.result c.in-None.ensures.cases c.number_of-in-None.ensures
