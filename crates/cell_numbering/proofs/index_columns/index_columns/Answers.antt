use Rattle.cell_numbering.proofs.Prelude.{◌≡◌, [], ◌∷◌, ◌++◌, length, ap, arith, length_push, AreIndexesIn}
use Rattle.cell_numbering.proofs.PlainLemmas.{one_more}
use Rattle.cell_numbering.proofs.index_columns.index_columns.Goals as goal

pub loop-cell_index-preserved : goal.loop-cell_index-preserved
loop-cell_index-preserved g c =
    let before = c.loop-cell_index.columns.items in
    let after = c.push.new.self.items in
    let last = c.column_numbers.result in
    let i = c.loop-cell_index.cell_index in
    let count = g.S.ReadMetadata.row_count c.args.source.now c.args.table in
    let is : after ≡ before ++ last ∷ [] = c.in_ok-push.ensures.items in
    let inv = c.loop-cell_index.invariant in
    record {
      len = omega (arith, ap length is, length_push before last, inv.len);
      counts = one_more (λ k numbers. numbers.count ≡ count) before after last i is inv.len inv.counts c.column_numbers.ensures.count;
      indexes = one_more (λ k numbers. AreIndexesIn (g.S.ReadCells.heap_index c.args.source.now) c.args.table k count numbers) before after last i is inv.len inv.indexes
          c.column_numbers.ensures.indexes;
    }

pub returns : goal.returns
returns g c =
    let inv = c.loop-cell_index.invariant in
    record {
      len = omega (arith, inv.len, c.loop-cell_index-test.false, c.loop-cell_index.auto.cell_index-end, c.cell_count-cell_index-end.ensures);
      counts = λ k below. inv.counts k (omega (arith, below, c.loop-cell_index-test.false, c.cell_count-cell_index-end.ensures));
      indexes = λ k below. inv.indexes k (omega (arith, below, c.loop-cell_index-test.false, c.cell_count-cell_index-end.ensures));
    }
