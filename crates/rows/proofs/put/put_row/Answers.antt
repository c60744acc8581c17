use Rattle.rows.proofs.Prelude.{◌≡◌, ℕ, ◌+◌, ◌<◌, ◌++◌, [], drop, length, get_or, arith, ◌∙◌, ap, sym, append-nil, append_assoc, refl, drop_all, columns_of, col, Sizes, width_of, number_bytes, row_bytes}
use Rattle.table_schema.specs.declared.column.ColumnKind.TheVariants as kind
use Rattle.rows.proofs.RowLemmas.{length_of_fit, fit_at, row_more, width_more, width_none}
use Rattle.rows.proofs.put.put_row.Goals as goal

pub returns-in_err-put_number-clause-err : goal.returns-in_err-put_number-clause-err
returns-in_err-put_number-clause-err c =
    let sizes : Sizes = c.args.layout.now in
    let columns = columns_of c.args.table in
    let i = c.loop-column.column in
    let many : length c.args.numbers.now ≡ length columns = length_of_fit sizes columns c.args.numbers.now c.requires in
    let more = width_more sizes columns i (col kind.U8) (omega (arith, c.loop-column-test.true)) in
    let fails = c.in_err-put_number.ensures.succeeds (omega (arith, more, c.cell_width.ensures.value, c.loop-column.invariant.room)) in
    cc fails

pub returns-in_err-put_number-clause-succeeds : goal.returns-in_err-put_number-clause-succeeds
returns-in_err-put_number-clause-succeeds c = λ room.
    let sizes : Sizes = c.args.layout.now in
    let columns = columns_of c.args.table in
    let i = c.loop-column.column in
    let many : length c.args.numbers.now ≡ length columns = length_of_fit sizes columns c.args.numbers.now c.requires in
    let more = width_more sizes columns i (col kind.U8) (omega (arith, c.loop-column-test.true)) in
    let fails = c.in_err-put_number.ensures.succeeds (omega (arith, more, c.cell_width.ensures.value, c.loop-column.invariant.room)) in
    cc fails

pub loop-column-preserved : goal.loop-column-preserved
loop-column-preserved c =
    let sizes : Sizes = c.args.layout.now in
    let columns = columns_of c.args.table in
    let numbers = c.args.numbers.now in
    let i = c.loop-column.column in
    let many : length numbers ≡ length columns = length_of_fit sizes columns numbers c.requires in
    let within : i < length columns = omega (arith, c.loop-column-test.true) in
    let more = width_more sizes columns i (col kind.U8) within in
    let row = row_more sizes columns numbers i (col kind.U8) within (omega (arith, c.loop-column-test.true)) in
    let number = number_bytes (width_of sizes (get_or columns i (col kind.U8))) (get_or numbers i 0) in
    let tail = row_bytes sizes (drop (i + 1) columns) (drop (i + 1) numbers) in
    let put : c.put_number.new.bytes.items ≡ c.loop-column.bytes.items ++ number = c.in_ok-put_number.ensures.ok ∙ ap (λ (w : ℕ). c.loop-column.bytes.items ++ number_bytes w (get_or numbers i 0)) c.cell_width.ensures.value in
    record {
      whole = ap (λ l. l ++ tail) put ∙ append_assoc c.loop-column.bytes.items number tail ∙ ap (λ l. c.loop-column.bytes.items ++ l) (sym row) ∙ c.loop-column.invariant.whole;
      long = omega (arith, more, c.cell_width.ensures.value, c.in_ok-put_number.ensures.len, c.loop-column.invariant.long);
      capacity = omega (arith, c.put_number.ensures.capacity, c.loop-column.invariant.capacity);
      room = omega (arith, more, c.cell_width.ensures.value, c.in_ok-put_number.ensures.len, c.put_number.ensures.capacity, c.loop-column.invariant.room);
    }

pub returns-clause-ok : goal.returns-clause-ok
returns-clause-ok c =
    let sizes : Sizes = c.args.layout.now in
    let columns = columns_of c.args.table in
    let numbers = c.args.numbers.now in
    let i = c.loop-column.column in
    let many : length numbers ≡ length columns = length_of_fit sizes columns numbers c.requires in
    let none : drop i columns ≡ [] = drop_all i columns (omega (arith, c.loop-column-test.false)) in
    let tail : row_bytes sizes (drop i columns) (drop i numbers) ≡ [] = rw none refl in
    sym (append-nil c.loop-column.bytes.items) ∙ ap (λ l. c.loop-column.bytes.items ++ l) (sym tail) ∙ c.loop-column.invariant.whole

pub returns-clause-len : goal.returns-clause-len
returns-clause-len c =
    let sizes : Sizes = c.args.layout.now in
    let columns = columns_of c.args.table in
    let many : length c.args.numbers.now ≡ length columns = length_of_fit sizes columns c.args.numbers.now c.requires in
    let none = width_none sizes columns c.loop-column.column (omega (arith, c.loop-column-test.false)) in
    omega (arith, none, c.loop-column.invariant.long)

pub put_number-requires-clause-fits : goal.put_number-requires-clause-fits
put_number-requires-clause-fits c =
    let sizes : Sizes = c.args.layout.now in
    let columns = columns_of c.args.table in
    let many : length c.args.numbers.now ≡ length columns = length_of_fit sizes columns c.args.numbers.now c.requires in
    let fits = fit_at sizes columns c.args.numbers.now c.loop-column.column (col kind.U8) c.requires (omega (arith, c.loop-column-test.true)) in
    rw c.cell_width.ensures.value fits
