use Rattle.checks.proofs.Prelude.{arith, number_of}
use Rattle.checks.proofs.AsciiTexts.{sure_holds}
use Rattle.checks.proofs.cell_checks.first_without_text.Goals as goal

pub returns-then-greatest_number-sure_end-clause-passed : goal.returns-then-greatest_number-sure_end-clause-passed
returns-then-greatest_number-sure_end-clause-passed c =
    let source = c.args.source.now.source in
    record {
      each = λ row first last. sure_holds source.texts c.sure_end-sure_end.result (number_of source c.args.table row c.args.column)
          (rw c.requires.texts at c.sure_end-sure_end.ensures) (omega (arith, c.greatest_number.ensures.each row first last));
    }
