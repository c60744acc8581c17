use Rattle.root_writer.proofs.Prelude.{◌≡◌, ◌<◌, ◌≤◌, length, get_or, subst, arith, columns_of, col, Sizes, width_of, number_bytes, Puts}
use Rattle.table_schema.specs.declared.column.ColumnKind.TheVariants as kind
use Rattle.schema.proofs.NumberLemmas.{length-number_bytes}
use Rattle.root_writer.proofs.RowLemmas.{here_fits, put_next, put_all, row_more, row_end}
use Rattle.root_writer.proofs.writer.Writer.put_row.Goals as goal

pub put_number-requires-clause-room : goal.put_number-requires-clause-room
put_number-requires-clause-room c =
    let sizes : Sizes = c.args.layout.now in
    let columns = columns_of c.args.table in
    let numbers = c.args.numbers.now in
    let i = c.loop-column.column in
    let within : i < length columns = omega (arith, c.loop-column-test.true) in
    let width = width_of sizes (get_or columns i (col kind.U8)) in
    let more = row_more sizes columns numbers i (col kind.U8) within c.loop-column-test.true in
    let fits = here_fits _ _ (number_bytes width (get_or numbers i 0)) _ _ _ more c.loop-column.invariant in
    let wide : c.cell_width.result ≡ width = c.cell_width.ensures.value in
    omega (arith, fits, wide, length-number_bytes width (get_or numbers i 0))

pub loop-column-preserved : goal.loop-column-preserved
loop-column-preserved c =
    let sizes : Sizes = c.args.layout.now in
    let columns = columns_of c.args.table in
    let numbers = c.args.numbers.now in
    let i = c.loop-column.column in
    let within : i < length columns = omega (arith, c.loop-column-test.true) in
    let more = row_more sizes columns numbers i (col kind.U8) within c.loop-column-test.true in
    let put = subst (λ width. Puts c.loop-column.self c.put_number.new.self (number_bytes width (get_or numbers i 0))) c.cell_width.ensures.value c.put_number.ensures in
    put_next _ _ _ _ _ _ _ more put c.loop-column.invariant

pub returns : goal.returns
returns c =
    let columns = columns_of c.args.table in
    let i = c.loop-column.column in
    let past : length columns ≤ i = omega (arith, c.loop-column-test.false) in
    put_all _ _ _ _ (row_end c.args.layout.now columns c.args.numbers.now i past) c.loop-column.invariant
