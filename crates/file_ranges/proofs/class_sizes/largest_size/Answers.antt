use Rattle.file_ranges.proofs.Prelude.{◌≤◌, ◌∙◌, arith, ClassLayout, rows_in}
use Rattle.file_ranges.proofs.SizeLemmas.{any_size}
use Rattle.file_ranges.proofs.class_sizes.largest_size.Goals as goal

pub returns : goal.returns
returns c = λ row.
    let source = c.args.source.now.source in
    let numbers = c.column.ensures.numbers in
    any_size source row c.greatest.result c.requires
    (λ layout first last.
    let most = c.greatest.ensures.bound layout first (omega (arith, c.count-count.ensures.value)) in
    omega (arith, numbers layout first last))
    (λ some.
    let among = c.greatest.ensures.among some in
    let last : among.row ≤ rows_in source ClassLayout = omega (arith, among.before, c.count-count.ensures.value) in
    (among.row, among.first, last, among.equal ∙ numbers among.row among.first last))
