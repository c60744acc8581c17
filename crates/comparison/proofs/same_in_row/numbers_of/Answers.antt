use Rattle.comparison.proofs.same_in_row.numbers_of.Goals as goal

pub returns-clause-left : goal.returns-clause-left
returns-clause-left c = cc (c.number-left_number.ensures.value, c.source.ensures.source, c.column_of_cell-column.ensures.value)

pub returns-clause-right : goal.returns-clause-right
returns-clause-right c = cc (c.number-right_number.ensures.value, c.source-2.ensures.source, c.column_of_cell-column.ensures.value)
