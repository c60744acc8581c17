use Rattle.std.proofs.Common.{◌++◌, length, ◌∙◌, arith}
use Rattle.heap_entries.proofs.BlobLemmas.{counted_behind}
use Rattle.heaps.proofs.overlaps.entry_len.Goals as goal

pub returns-in-Some-clause-len : goal.returns-in-Some-clause-len
returns-in-Some-clause-len c = λ blob counted low.
    let back = c.split_at.ensures.back ∙ counted_behind c.args.heap.now c.args.index blob counted in
    let read = c.in-Some.ensures.complete (length blob) counted.count (blob ++ counted.after) back counted.counts in
    omega (arith, read.0, read.1, c.in-Some.len-is, c.in-Some.used-is)

pub returns-in-None-clause-len : goal.returns-in-None-clause-len
returns-in-None-clause-len c = λ blob counted low.
    absurd (c.in-None.ensures.complete (length blob) counted.count (blob ++ counted.after) (c.split_at.ensures.back ∙ counted_behind c.args.heap.now c.args.index blob counted) counted.counts)
