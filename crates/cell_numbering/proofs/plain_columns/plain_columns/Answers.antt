use Rattle.cell_numbering.proofs.Prelude.{◌≡◌, [], ◌∷◌, ◌++◌, length, ap, arith, length_push}
use Rattle.cell_numbering.specs.PlainColumns.{IsPlainIn, Plain}
use Rattle.cell_numbering.proofs.PlainLemmas.{one_more}
use Rattle.cell_numbering.proofs.plain_columns.plain_columns.Goals as goal

pub loop-cell_index-preserved : goal.loop-cell_index-preserved
loop-cell_index-preserved g c =
    let before = c.loop-cell_index.columns.items in
    let after = c.push.new.self.items in
    let last = c.plain_column.result in
    let i = c.loop-cell_index.cell_index in
    let is : after ≡ before ++ last ∷ [] = c.in_ok-push.ensures.items in
    let inv = c.loop-cell_index.invariant in
    record {
      len = omega (arith, ap length is, length_push before last, inv.len);
      counts = one_more (λ k (plain : Plain). plain.column.count ≡ g.S.ReadMetadata.row_count c.args.source.now c.args.table) before after last i is inv.len inv.counts c.plain_column.ensures.count;
      plain = λ model shows. one_more (IsPlainIn model c.args.table) before after last i is inv.len (inv.plain model shows) (c.plain_column.ensures.plain model shows);
    }

pub returns : goal.returns
returns g c =
    let inv = c.loop-cell_index.invariant in
    let i = c.loop-cell_index.cell_index in
    record {
      len = omega (arith, inv.len, c.loop-cell_index-test.false, c.loop-cell_index.auto.cell_index-end, c.cell_count-cell_index-end.ensures);
      counts = λ k below. inv.counts k (omega (arith, below, c.loop-cell_index-test.false, c.cell_count-cell_index-end.ensures));
      plain = λ model shows k below. inv.plain model shows k (omega (arith, below, c.loop-cell_index-test.false, c.cell_count-cell_index-end.ensures));
    }
