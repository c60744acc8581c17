use Rattle.checks.proofs.Prelude.{ℕ, List, slice_index, refl, subst, IsBlob}
use Rattle.checks.proofs.BlobLemmas.{near_blob}
use Rattle.checks.proofs.blobs.Blobs.has.Goals as goal

pub returns-then-has_low_byte : goal.returns-then-has_low_byte
returns-then-has_low_byte c =
    let blobs = c.self.inside in (
      λ yes. subst (λ heap. (blob : List ℕ) × IsBlob heap c.args.index blob) c.self.view_is
          (near_blob blobs.heap.now blobs.near.now c.args.index (slice_index blobs.near.now c.args.index) c.self.invariant
          (c.has_low_byte.ensures.within c.if-has_low_byte.true) refl (c.has_low_byte.ensures.low c.if-has_low_byte.true)),
      λ found. c.if-has_low_byte.true,
    )
