use Rattle.writer.proofs.Prelude.{◌^◌, ◌<◌, length, inl, inr, refl, Strings, Guids, Blobs, text_heap, Metadata, canonical, IsTooLong}
use Rattle.heap_pools.specs.BlobHeap.{blob_heap}
use Rattle.heap_pools.specs.GuidHeap.{guid_heap}
use Rattle.root_writer.specs.Pools.{pools_of}
use Rattle.writer.proofs.LengthLemmas.{ArePut, within, over}
use Rattle.writer.proofs.laws.streams_are_within_roots.Goals as goal

too_long : ArePut → (model : Metadata) → IsTooLong model → 2 ^ 30 < length (canonical model)
too_long put model (inl blobs) = over put model Blobs (blob_heap (pools_of model).blobs) (2 ^ 30) refl blobs
too_long put model (inr guids) = over put model Guids (guid_heap (pools_of model).guids) (2 ^ 30) refl guids

pub returns : goal.returns
returns c =
    let put : ArePut = c.canonical_roots_are_put.ensures in
    record {
      stream = within put;
      texts = λ model long. over put model Strings (text_heap (pools_of model).texts) (2 ^ 30) refl long;
      pools = too_long put;
    }
