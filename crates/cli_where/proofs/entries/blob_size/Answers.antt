use Rattle.std.proofs.Common.{◌∙◌}
use Rattle.heap_entries.proofs.BlobLemmas.{counted_behind}
use Rattle.cli_where.proofs.EntryLemmas.{counted_stands}
use Rattle.cli_where.proofs.entries.blob_size.Goals as goal

pub returns-in_err-count-clause-complete : goal.returns-in_err-count-clause-complete
returns-in_err-count-clause-complete c = rw c.from_residual.ensures (λ blob stands.
    c.in_err-count.ensures.complete _ stands.count _ (c.split_at.ensures.back ∙ counted_behind c.args.heap.now c.args.start blob stands) stands.counts)

pub returns-clause-sound : goal.returns-clause-sound
returns-clause-sound c =
    counted_stands c.args.heap.now c.args.start c.in_ok-count.used c.in_ok-count.count c.split_at.result.1.now c.split_at-2.result.1.now c.if-start-heap.false c.split_at.ensures.back
    c.in_ok-count.ensures.sound.0 c.in_ok-count.ensures.sound.1 c.split_at-2.ensures.back c.if-blob-count.false
