use Rattle.cell_numbering.proofs.Prelude.{arith, subst, ColumnKind, number_in_row, HasRow, cell_in, kind_at}
use Rattle.cell_numbering.specs.PlainColumns.{IsLeast}
use Rattle.cell_numbering.proofs.PlainLemmas.{own_number}
use Rattle.cell_numbering.proofs.plain_columns.plain_column.Goals as goal

pub returns-clause-plain : goal.returns-clause-plain
returns-clause-plain g c = λ model is row first last.
    let table = c.args.table in
    let cell_index = c.args.cell_index in
    let least : IsLeast (kind_at table cell_index) c.in_ok-least.least = subst (λ (k : ColumnKind). IsLeast k c.in_ok-least.least) c.kind_of.ensures c.in_ok-least.ensures in
    let rows = c.holds_one.ensures.rows model is table in
    let there : HasRow model table row = (first, last) in
    let good = (c.holds_one.ensures.valid model is).cells table row cell_index there c.requires in
    own_number (kind_at table cell_index) c.in_ok-least.least (number_in_row c.in_ok-column.column row) (cell_in model table row cell_index) least good.of_kind
    (c.in_ok-column.ensures.numbers model is row first (omega (arith, rows, last)))
