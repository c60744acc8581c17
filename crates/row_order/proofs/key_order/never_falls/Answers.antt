use Rattle.std.proofs.Common.{◌-◌, arith}
use Rattle.row_order.proofs.key_order.never_falls.Goals as goal

pub returns : goal.returns
returns c =
    let numbers = c.column.ensures.numbers in
    let count = c.column.ensures.count in (
      λ yes row low high.
          omega (arith, c.never_falls.ensures.0 yes row low (omega (arith, count)), numbers row (omega arith) (omega arith), numbers (row - 1) (omega arith) (omega arith)),
      λ order. c.never_falls.ensures.1 (λ row low high.
          omega (arith, order row low (omega (arith, count)), numbers row (omega arith) (omega (arith, count)), numbers (row - 1) (omega arith) (omega (arith, count)))),
    )
