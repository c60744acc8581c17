use Rattle.std.proofs.Common.{inl, refl, arith}
use Rattle.heap_entries.proofs.BlobLemmas.{blob_counted}
use Rattle.heap_entries.proofs.blobs.blob.Goals as goal

pub returns-in-Some-clause-complete : goal.returns-in-Some-clause-complete
returns-in-Some-clause-complete c = λ blob is. c.in-Some.ensures.complete blob (blob_counted c.args.heap.now c.args.index blob (omega arith) is)

pub returns-in-None-clause-complete : goal.returns-in-None-clause-complete
returns-in-None-clause-complete c = λ blob is. c.in-None.ensures.complete blob (blob_counted c.args.heap.now c.args.index blob (omega arith) is)

pub returns-in-None-clause-reports : goal.returns-in-None-clause-reports
returns-in-None-clause-reports c = λ offset.
    inl (λ some. c.in-None.ensures.complete some.0 (blob_counted c.args.heap.now c.args.index some.0 (omega arith) some.1), refl)
