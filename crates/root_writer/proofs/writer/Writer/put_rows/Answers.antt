use Rattle.root_writer.proofs.Prelude.{◌≡◌, ◌+◌, ◌-◌, ◌*◌, length, take, drop, ap, ◌∙◌, arith, columns_of, Sizes, count_of}
use Rattle.root_writer.proofs.RowLemmas.{here_fits, put_next, put_all, next_row, no_row, fewer}
use Rattle.root_writer.proofs.writer.Writer.put_rows.Goals as goal

pub put_row-requires-clause-room : goal.put_row-requires-clause-room
put_row-requires-clause-room c =
    let sizes : Sizes = c.args.layout.now in
    let columns = columns_of c.args.table in
    let left = count_of sizes c.args.table - c.loop-row._row in
    let next = count_of sizes c.args.table - (c.loop-row._row + 1) in
    let more : left ≡ next + 1 = omega (arith, c.loop-row-test.true, c.count-row-end.ensures.value) in
    let tail = c.loop-row.tail.now in
    let prefix = c.split_at.ensures.front ∙ ap (λ list. take (length list) tail) c.columns-columns.ensures in
    let back = c.split_at.ensures.back ∙ ap (λ list. drop (length list) tail) c.columns-columns.ensures in
    here_fits _ _ _ _ _ _ (next_row sizes columns (length columns) left next tail c.split_at.result.0.now c.split_at.result.1.now more prefix back) c.loop-row.invariant.putting

pub loop-row-preserved : goal.loop-row-preserved
loop-row-preserved c =
    let sizes : Sizes = c.args.layout.now in
    let columns = columns_of c.args.table in
    let left = count_of sizes c.args.table - c.loop-row._row in
    let next = count_of sizes c.args.table - (c.loop-row._row + 1) in
    let more : left ≡ next + 1 = omega (arith, c.loop-row-test.true, c.count-row-end.ensures.value) in
    let tail = c.loop-row.tail.now in
    let prefix = c.split_at.ensures.front ∙ ap (λ list. take (length list) tail) c.columns-columns.ensures in
    let back = c.split_at.ensures.back ∙ ap (λ list. drop (length list) tail) c.columns-columns.ensures in
    record {
      putting = put_next _ _ _ _ _ _ _ (next_row sizes columns (length columns) left next tail c.split_at.result.0.now c.split_at.result.1.now more prefix back)
          c.put_row.ensures c.loop-row.invariant.putting;
      many = fewer (length columns) next tail c.split_at.result.1.now back (c.loop-row.invariant.many ∙ ap (λ count. length columns * count) more);
    }

pub returns : goal.returns
returns c =
    let sizes : Sizes = c.args.layout.now in
    let columns = columns_of c.args.table in
    let left = count_of sizes c.args.table - c.loop-row._row in
    let none : left ≡ 0 = omega (arith, c.loop-row-test.false, c.count-row-end.ensures.value) in
    put_all _ _ _ _ (no_row sizes columns (length columns) left c.loop-row.tail.now none) c.loop-row.invariant.putting
