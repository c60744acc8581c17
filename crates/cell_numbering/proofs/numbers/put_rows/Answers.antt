use Rattle.cell_numbering.proofs.Prelude.{◌≡◌, ℕ, ◌+◌, ◌-◌, ◌<◌, ◌≤◌, List, [], length, get_or, drop, ap, ◌∙◌, arith, columns_of, Cell, rows_of, SoFar, with_row, with_rows}
use Rattle.cell_numbering.proofs.CellIndexLemmas.{next_left, none_left}
use Rattle.cell_numbering.proofs.numbers.put_rows.Goals as goal

pub loop-row-preserved : goal.loop-row-preserved
loop-row-preserved g c = record {
  follow = c.put_row.ensures.cursors;
  whole = λ model is.
      let indexes = c.args.indexes in
      let columns = columns_of c.args.table in
      let rows = rows_of model c.args.table in
      let i = c.loop-row.row in
      let held = c.holds_one.ensures.rows model is c.args.table in
      let below : i < length rows = omega (arith, c.count-count.ensures.rows) in
      let back : i + 1 - 1 ≡ i = omega arith in
      ap (λ (n : SoFar). with_rows indexes columns (drop (i + 1) rows) n)
      (c.in_ok-put_row.ensures.ok model is ∙ ap (λ (k : ℕ). with_row indexes columns (get_or rows k []) c.loop-row.so_far) back)
      ∙ next_left (λ (left : List (List Cell)). with_rows indexes columns left c.loop-row.so_far) rows i [] _ below (c.loop-row.invariant.whole model is);
}

pub returns : goal.returns
returns g c = λ model is.
    let rows = rows_of model c.args.table in
    let held = c.holds_one.ensures.rows model is c.args.table in
    let past : length rows ≤ c.loop-row.row = omega (arith, c.count-count.ensures.rows) in
    none_left (λ (left : List (List Cell)). with_rows c.args.indexes (columns_of c.args.table) left c.loop-row.so_far) rows c.loop-row.row _ past (c.loop-row.invariant.whole model is)
