use Rattle.checks.proofs.CodedLemmas.{tag_taken, below_limit}
use Rattle.checks.proofs.coded_limits.is_below_limit.Goals as goal

pub returns-then-row-ne0 : goal.returns-then-row-ne0
returns-then-row-ne0 c = λ source are passes offset.
    below_limit source c.args.coded c.args.nullable c.args.limits.now c.args.number _ _ are
    (rw c.tag_bits-bits.ensures.value at (tag_taken c.args.number c.tag_bits-bits.result c.tag_bits-bits.ensures.limit c.ranges.number.fits))
    (rw c.tag_bits-bits.ensures.value at c.if-row-limits.true) (λ none. absurd (c.if-row-ne0.true (rw c.tag_bits-bits.ensures.value none))) offset

pub returns-else-row-ne0 : goal.returns-else-row-ne0
returns-else-row-ne0 c = λ source are passes offset.
    below_limit source c.args.coded c.args.nullable c.args.limits.now c.args.number _ _ are
    (rw c.tag_bits-bits.ensures.value at (tag_taken c.args.number c.tag_bits-bits.result c.tag_bits-bits.ensures.limit c.ranges.number.fits))
    (rw c.tag_bits-bits.ensures.value at c.if-row-limits.true) (λ none. passes) offset
