use Rattle.comparison.proofs.Prelude.{arith, Decides-eqb, slice_eq-Decides, source_of, row_count}
use Rattle.comparison.proofs.AlikeLemmas.{same_numbers}
use Rattle.comparison.proofs.same_bytes.have_same_bytes.Goals as goal

pub row_bytes-requires-clause-last : goal.row_bytes-requires-clause-last
row_bytes-requires-clause-last c = omega (arith, c.requires.last, c.source.ensures.rows c.args.table)

pub row_bytes-requires-2-clause-last : goal.row_bytes-requires-2-clause-last
unfolding row_count
row_bytes-requires-2-clause-last c = rw c.source-2.ensures.source (omega (arith, c.requires.last, c.requires.layout.counts c.args.table))

pub returns : goal.returns
returns c = λ same.
    let left = source_of c.args.left.now in
    let right = source_of c.args.right.now in
    let bytes = (slice_eq-Decides Decides-eqb c.row_bytes.result.now c.row_bytes-2.result.now c.eq.result c.eq.ensures).0 same in
    same_numbers left right c.args.table c.args.first c.args.past c.row_bytes.result.now c.row_bytes-2.result.now
    (c.widths_follow_from_counts.ensures.width left.sizes right.sizes c.requires.layout)
    (rw c.source.ensures.source at c.row_bytes.ensures) (rw c.source-2.ensures.source at c.row_bytes-2.ensures) bytes
