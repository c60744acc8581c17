-- The pools of a model: the values in its heaps (ECMA-335 II.24.2.3 to II.24.2.5).
use Rattle.std.specs.Prelude.{ℕ, List, [], ◌∷◌, flat_map, Some}
use Rattle.metadata.specs.Cell.{Cell, Text, Bytes, Guid, Sig}
use Rattle.heap_entries.specs.Padding.{zero_padded}
use Rattle.heap_pools.specs.Distinct.{distinct}
use Rattle.heap_pools.specs.TextHeap.{holders, text_heap}
use Rattle.heap_pools.specs.BlobHeap.{blob_heap}
use Rattle.heap_pools.specs.GuidHeap.{guid_heap}
use Rattle.sig_grammar.specs.Encodes.{short}
use Rattle.metadata.specs.Metadata.{Metadata}

-- the texts that a cell uses (II.24.2.3)
abbrev pub texts_of : Cell → List (List ℕ)
texts_of (Text text) = text ∷ []
texts_of _ = []

-- the blobs that a cell uses; a signature becomes the blob of its canonical encoding (II.23.2)
abbrev pub blobs_of : Cell → List (List ℕ)
blobs_of (Bytes blob) = blob ∷ []
blobs_of (Sig signature) = short signature ∷ []
blobs_of _ = []

-- the GUIDs that a cell uses; a null GUID uses none (II.24.2.5)
abbrev pub guids_of : Cell → List (List ℕ)
guids_of (Guid (Some guid)) = guid ∷ []
guids_of _ = []

-- the values that all cells use, in order of table, row and column
unfoldable pub used : (Cell → List (List ℕ)) → Metadata → List (List ℕ)
used values model = flat_map (flat_map (flat_map values)) model.tables

-- the entries of the three heaps
pub record Pools : Type 0 where
  pub texts : List (List ℕ)
  pub blobs : List (List ℕ)
  pub guids : List (List ℕ)

-- the pools of a model: each value once, in order of first use; a text that is the tail of another has no own entry
abbrev pub pools_of : Metadata → Pools
pools_of model = record { texts = holders (used texts_of model); blobs = distinct (used blobs_of model); guids = distinct (used guids_of model) }

-- the streams of the heaps, padded to a multiple of four (II.24.2.2)
abbrev pub texts_stream : Metadata → List ℕ
texts_stream model = zero_padded (text_heap (pools_of model).texts)

abbrev pub blobs_stream : Metadata → List ℕ
blobs_stream model = zero_padded (blob_heap (pools_of model).blobs)

abbrev pub guids_stream : Metadata → List ℕ
guids_stream model = zero_padded (guid_heap (pools_of model).guids)
