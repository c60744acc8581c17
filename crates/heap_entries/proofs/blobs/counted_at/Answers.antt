use Rattle.std.proofs.Common.{◌∙◌}
use Rattle.heap_entries.proofs.BlobLemmas.{counted_behind}
use Rattle.heap_entries.proofs.blobs.counted_at.Goals as goal

pub returns-in_err-len-clause-complete : goal.returns-in_err-len-clause-complete
returns-in_err-len-clause-complete c = rw c.from_residual.ensures (λ bytes is.
    c.in_err-len.ensures.complete _ is.count _ (c.split_at.ensures.back ∙ counted_behind c.args.heap.now c.args.start bytes is) is.counts)
