use Rattle.comparison.proofs.Prelude.{sym, IfSome_then}
use Rattle.comparison.proofs.same_in_row.known_in_row.Goals as goal

pub returns-then-is_named_same : goal.returns-then-is_named_same
returns-then-is_named_same c = λ first second one two.
    let there = c.requires.row in
    let numbers = c.numbers_of-numbers.ensures in
    c.is_named_same.ensures c.if-is_named_same.true first second one two c.args.cell.row there.first there.left_last there.right_last (sym numbers.left) (sym numbers.right)

pub returns : goal.returns
returns c = λ first second one two.
    let there = c.requires.row in
    let numbers = c.numbers_of-numbers.ensures in
    IfSome_then c.known.result (c.known.ensures c.args.left.now c.args.right.now c.args.cell.table c.requires.compared)
    (λ same is. is first second one two c.args.cell.row there.first there.left_last there.right_last (sym numbers.left) (sym numbers.right))
