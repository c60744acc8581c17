-- The numbers of blobs that are remembered.
use Rattle.std.specs.Prelude.{◌≡◌, ℕ, ◌+◌, ◌/◌, ◌%◌, Bool, ◌&&◌, ◌||◌, nat_eq, nat_le, nat_lt, List, replicate, slice_index, slice_set, IsTrue, if◌then◌else◌}
use Rattle.checks.specs.declared.passed.Beginning.{Beginning}

-- two tables of slots, and how many bytes a part of the heap has
pub record Slots : Type 0 where
  pub recent : List ℕ
  pub long : List ℕ
  pub part : ℕ

-- empty slots, for a heap of this number of bytes
abbrev pub no_slots : ℕ → Slots
no_slots bytes = record { recent = replicate 1024 0; long = replicate 1024 0; part = bytes / 1024 + 1 }

-- the slot of a number by its low ten bits, and that of the part of the heap in which its blob begins
abbrev pub recent_slot : ℕ → ℕ
recent_slot number = number % 1024

abbrev pub long_slot : Slots → ℕ → ℕ
long_slot slots number = number / slots.part % 1024

-- whether the number stands in one of its slots; 0 is no number that is kept
abbrev pub is_kept : Slots → ℕ → Bool
is_kept slots number =
    nat_lt 0 number && (nat_eq (slice_index slots.recent (recent_slot number)) number || nat_eq (slice_index slots.long (long_slot slots number)) number)

abbrev pub Keeps : Slots → ℕ → Type 0
Keeps slots number = IsTrue (is_kept slots number)

-- a blob of this number of bytes ends in a later part of the heap than that in which it begins
abbrev pub leaves_part : Slots → ℕ → ℕ → Bool
leaves_part slots number bytes = nat_le slots.part (number % slots.part + bytes)

-- a number is kept: by its low bits, and by its part if its blob leaves that
abbrev pub keep : Slots → ℕ → ℕ → Slots
keep slots number bytes = record {
  recent = slice_set slots.recent (recent_slot number) number;
  long = if leaves_part slots number bytes then slice_set slots.long (long_slot slots number) number else slots.long;
  part = slots.part;
}

-- the blob of a number begins in this part of the heap, after this number of the part's bytes
pub record BeginsIn (slots : Slots) (number : ℕ) (beginning : Beginning) : Type 0 where
  pub part : beginning.part ≡ number / slots.part
  pub before : beginning.before ≡ number % slots.part
