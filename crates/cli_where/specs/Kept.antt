-- What a program keeps of the heaps while it looks for the entries that have a byte.
use Rattle.std.specs.Prelude.{◌≡◌, ◌≢◌, ℕ, ◌+◌, ◌-◌, ◌<◌, ◌≤◌, List, ◌++◌, length, true, Option, None, Some, slice_index}
use Rattle.cli_where.specs.declared.entries.Heap.{Heap as KeptHeap}
use Rattle.cli_where.specs.declared.entries.Target.{Target}
use Rattle.cli_where.specs.Words.{TableCell, Stream, Joins, Searched, Region, has_byte}
use Rattle.cli_where.specs.Entries.{AreFirst, Heap, Heaps, IsEntryOf, IsStringAt}

abbrev pub heap_of : KeptHeap → Heap
heap_of heap = record { bytes = heap.bytes.now; start = heap.start }

abbrev pub heaps_of : Target → Heaps
heaps_of target = record { texts = heap_of target.texts; guids = heap_of target.guids; blobs = heap_of target.blobs }

-- The bytes from `first` up to the NUL at `end` have no NUL, and this byte is one of them or that NUL. The run begins
-- the heap or follows a NUL. So the string at an index has the byte if and only if the index is from `first` up to it.
pub record IsRun (heap : List ℕ) (byte first ends : ℕ) : Type 0 where
  pub from : first ≤ byte
  pub upto : byte ≤ ends
  pub within : ends < length heap
  pub nul : slice_index heap ends ≡ 0
  pub clear : (k : ℕ) → first ≤ k → k < ends → slice_index heap k ≢ 0
  pub follows : 0 < first → slice_index heap (first - 1) ≡ 0

-- the run that has a byte; or no byte from it on is a NUL
abbrev pub IsRunAt : List ℕ → ℕ → Option (ℕ × ℕ) → Type 0
IsRunAt heap byte None = (k : ℕ) → byte ≤ k → k < length heap → slice_index heap k ≢ 0
IsRunAt heap byte (Some run) = IsRun heap byte run.0 run.1

-- the run that has the byte at an offset of the file; or no string of the heap has this byte
abbrev pub IsRunOf : Heap → ℕ → Option (ℕ × ℕ) → Type 0
IsRunOf heap offset None = (index start size : ℕ) → IsStringAt heap index start size → has_byte start size offset ≡ true → ⊥
IsRunOf heap offset (Some run) = (byte : ℕ) × (offset ≡ heap.start + byte) × IsRun heap.bytes byte run.0 run.1

-- the offset and the size of a heap are those of a stream
pub record IsLow (heap : KeptHeap) : Type 0 where
  pub start : heap.start ≤ 0x80000000
  pub size : length heap.bytes.now ≤ 0x40000000

-- the run is that of the byte
pub record AreReady (target : Target) : Type 0 where
  pub texts : IsLow target.texts
  pub guids : IsLow target.guids
  pub blobs : IsLow target.blobs
  pub run : IsRunOf (heap_of target.texts) target.offset target.run

-- with the entries of these cells, a number of which is left, the entries of more cells are the first ones of all
abbrev pub NameFirst : (TableCell → Option Region → Type 0) → ℕ → ℕ → List TableCell → List Region → Type 0
NameFirst IsOf most left cells found =
    (more : List TableCell) (later : List Region) → AreFirst IsOf left more later → AreFirst IsOf most (cells ++ more) (found ++ later)

-- the search kept the entries of these cells that contain the byte, at most `most`; of this number some are left
pub record FindsFirst (target : Target) (stream : Stream) (most left : ℕ) (cells : List TableCell) (old new : Searched) : Type 0 where
  pub found : List Region
  pub first : NameFirst (IsEntryOf (heaps_of target) stream.bytes stream.sizes target.offset) most left cells found
  pub joins : Joins old new found
