use Rattle.tables.specs.Said.{said}
use Rattle.tables.proofs.CellCheckLemmas.{cell_has_index}
use Rattle.tables.proofs.cell_checks.check_cell.Goals as goal

pub returns-then-not-may_refer : goal.returns-then-not-may_refer
returns-then-not-may_refer c =
    cell_has_index c.args.counted.now c.args.table c.args.row c.args.cell_index c.column_at-column.result.kind c.column_at-column.result.nullable
    (said c.args.cell.now) c.new-then-not-may_refer.result c.column_at-column.ensures.kind c.column_at-column.ensures.nullable c.requires.cell
    (c.is_of_column.ensures.0 cc) (λ refers. let yes = c.may_refer.ensures.1 refers in absurd cc)
    (rw c.number-number.ensures.value at c.new-then-not-may_refer.ensures)
