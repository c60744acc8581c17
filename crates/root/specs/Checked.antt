-- What the fields of a `Root` mean, and their invariant.
use Rattle.std.specs.Prelude.{◌≡◌, ℕ, ◌≤◌, ◌<◌, length}
use Rattle.packed.specs.Limit.{byte_limit}
use Rattle.root.specs.declared.root.Root.TheInside.{Inside}
use Rattle.root.specs.Fields.{header_offset, header_number, headers_before}
use Rattle.root.specs.Root.{EndsWithin}
use Rattle.root.specs.Shown.{AllShow}
use Rattle.root.specs.Streams.{RootRead}

abbrev pub root_of : Inside → RootRead
root_of root = record { bytes = root.bytes.now; version = root.version.now; headers = headers_before root.bytes.now root.count }

-- the headers are valid, and each stream of the standard ends within the root (ECMA-335 II.24.2.2)
pub record IsChecked (root : Inside) : Type 0 where
  pub small : length root.bytes.now ≤ byte_limit
  pub start : root.start ≡ header_offset root.bytes.now 0
  pub shows : AllShow root.bytes.now root.count
  pub within : (i : ℕ) → i < root.count → EndsWithin (length root.bytes.now) (header_number root.bytes.now i)
