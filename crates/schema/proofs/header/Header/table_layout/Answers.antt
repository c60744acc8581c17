use Rattle.schema.proofs.Prelude.{◌≡◌, ◌≤◌, ℕ, ◌<◌, length, take, get_or, arith, ◌∙◌, sym, refl, ap, length-set, List, false, take_all, U8, Column, columns_width, sizes_kept, columns_few}
use Rattle.schema.proofs.CellLemmas.{columns_width-nil}
use Rattle.schema.proofs.TableLayoutLemmas.{columns_width_more, number_kept}
use Rattle.schema.proofs.header.Header.table_layout.Goals as goal

pub loop-index-init : goal.loop-index-init
loop-index-init c = record {
  width = sym (columns_width-nil (sizes_kept c.args.self.now));
  room = refl;
  small = omega arith;
  offsets = λ column h. absurd (omega arith);
}

pub loop-index-preserved : goal.loop-index-preserved
loop-index-preserved c =
    let columns = c.columns-columns.result.now in
    let sizes = sizes_kept c.args.self.now in
    let few : length columns ≤ 9 = rw c.columns-columns.ensures (columns_few c.args.table) in
    let more = columns_width_more sizes columns c.loop-index.index (record { kind = U8; nullable = false }) c.loop-index-test.true in
    record {
      width = cc (more, c.loop-index.invariant.width, c.width.ensures.value);
      room = length-set _ _ _ ∙ c.loop-index.invariant.room;
      small = omega arith;
      offsets = number_kept (λ column. columns_width sizes (take column columns)) c.loop-index.offsets c.loop-index.index c.loop-index.row_width (omega arith) c.loop-index.invariant.width c.loop-index.invariant.offsets;
    }

pub returns : goal.returns
returns c =
    let columns = c.columns-columns.result.now in
    let sizes = sizes_kept c.args.self.now in
    let few : length columns ≤ 9 = rw c.columns-columns.ensures (columns_few c.args.table) in
    let all : c.loop-index.index ≡ length columns = omega arith in
    let whole : c.loop-index.row_width ≡ columns_width sizes (take (length columns) columns) = rw (← all) c.loop-index.invariant.width in
    let before : (k : ℕ) → k < length columns → get_or c.loop-index.offsets k 0 ≡ columns_width sizes (take k columns) = λ k h. c.loop-index.invariant.offsets k (omega arith) in
    let kept = number_kept (λ column. columns_width sizes (take column columns)) c.loop-index.offsets (length columns) c.loop-index.row_width (omega arith) whole before in
    record {
      start = c.requires.start;
      low = c.requires.low;
      row_width = whole ∙ ap (columns_width sizes) (take_all (length columns) columns (omega arith)) ∙ ap (columns_width sizes) c.columns-columns.ensures;
      narrow = omega arith;
      offsets = λ column h. kept column (omega (arith, ap length c.columns-columns.ensures)) ∙ ap (λ (xs : List Column). columns_width sizes (take column xs)) c.columns-columns.ensures;
    }
