use Rattle.cell_numbering.proofs.Prelude.{◌+◌, ◌<◌, ◌≤◌, List, length, drop, refl, sym, ap, ◌∙◌, arith, Column, columns_of, col, row_of, with_row}
use Rattle.table_schema.specs.declared.column.ColumnKind.TheVariants as kind
use Rattle.cell_numbering.proofs.CellIndexLemmas.{first_cell_index, next_left, none_left}
use Rattle.cell_numbering.proofs.numbers.put_row.Goals as goal

pub loop-index-init : goal.loop-index-init
loop-index-init g c = record { whole = λ model is. refl; at = first_cell_index c.args.table; follow = c.requires.cursors }

pub loop-index-preserved : goal.loop-index-preserved
loop-index-preserved g c =
    let indexes = c.args.indexes in
    let columns = columns_of c.args.table in
    let i = c.loop-index.index in
    let below : i < length columns = omega (arith, ap length c.columns-index-end.ensures) in
    record {
      whole = λ model is.
          sym (c.in_ok-cell_index.ensures.ok model is (with_row indexes (drop (i + 1) columns)))
          ∙ next_left (λ (left : List Column). with_row indexes left (drop c.loop-index.cell_index (row_of model c.args.table c.args.row)) c.loop-index.so_far) columns i (col kind.U8) _ below (c.loop-index.invariant.whole model is);
      at = c.in_ok-cell_index.ensures.cell_index;
      follow = c.put_next.ensures.cursors;
    }

pub returns-clause-ok : goal.returns-clause-ok
returns-clause-ok g c = λ model is.
    let columns = columns_of c.args.table in
    let past : length columns ≤ c.loop-index.index = omega (arith, ap length c.columns-index-end.ensures) in
    none_left (λ (left : List Column). with_row c.args.indexes left (drop c.loop-index.cell_index (row_of model c.args.table c.args.row)) c.loop-index.so_far) columns c.loop-index.index _ past (c.loop-index.invariant.whole model is)
