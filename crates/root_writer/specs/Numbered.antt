-- The numbers of cells, and the heaps of their blobs and GUIDs (ECMA-335 II.24.2.4 to II.24.2.6).
use Rattle.std.specs.Prelude.{◌≡◌, ℕ, ◌^◌, ◌<◌, ◌≤◌, ◌⊎◌, ⊤, List, length, flat_map, Some}
use Rattle.heap_pools.specs.BlobHeap.{blob_heap}
use Rattle.heap_pools.specs.GuidHeap.{guid_heap}
use Rattle.sig_grammar.specs.Encodes.{short}
use Rattle.metadata.specs.Cell.{Cell, Bytes, Ref, Sig}
use Rattle.metadata.specs.Metadata.{Metadata}
use Rattle.root_writer.specs.Pools.{pools_of}
use Rattle.root_writer.specs.Numbers.{numbers}

-- the bytes of the two heaps, without padding, and the numbers of the cells
pub record Numbered : Type 0 where
  pub blobs : List ℕ
  pub guids : List ℕ
  pub numbers : List ℕ

-- the numbers of tables as one list, by table, row and column
abbrev pub flat : List (List (List ℕ)) → List ℕ
flat numbers = flat_map (flat_map (λ row. row)) numbers

-- the blob and GUID heaps of the model, and the numbers of its cells
pub record IsNumbering (model : Metadata) (numbered : Numbered) : Type 0 where
  pub blobs : numbered.blobs ≡ blob_heap (pools_of model).blobs
  pub guids : numbered.guids ≡ guid_heap (pools_of model).guids
  pub numbers : numbered.numbers ≡ flat (numbers model)

-- one of the model's blob and GUID heaps exceeds 2^30 bytes
abbrev pub IsTooLong : Metadata → Type 0
IsTooLong model = (2 ^ 30 < length (blob_heap (pools_of model).blobs)) ⊎ (2 ^ 30 < length (guid_heap (pools_of model).guids))

-- the cell's blob is shorter than 2^29 bytes, and its row is one that a table can have
abbrev pub CanBeNumbered : Cell → Type 0
CanBeNumbered (Bytes blob) = length blob < 2 ^ 29
CanBeNumbered (Sig signature) = length (short signature) < 2 ^ 29
CanBeNumbered (Ref (Some token)) = token.row ≤ 0xFFFFFF
CanBeNumbered _ = ⊤
