-- What can be read of the headers of a root that may break a rule (ECMA-335 II.24.2.1 and II.24.2.2).
use Rattle.std.specs.Prelude.{◌≡◌, ◌⊎◌, ℕ, ◌<◌, ◌≤◌, List}
use Rattle.packed.specs.Rule.{AllHold}
use Rattle.root.specs.Fields.{header_count, header_offset, headers_before, version_of}
use Rattle.root.specs.Rules.{HasHeader, rules_of_root_header}
use Rattle.root.specs.Streams.{Header}

-- the number of stream headers that can be read: all that Streams counts, or those before the first that is none
pub record IsReadableCount (root : List ℕ) (count : ℕ) : Type 0 where
  pub within : count ≤ header_count root
  pub each : (i : ℕ) → i < count → HasHeader root (header_offset root i)
  pub last : (count ≡ header_count root) ⊎ (¬ HasHeader root (header_offset root count))

-- the fields before the stream headers break no rule; this is the version, and these are the stream headers that can be read
pub record IsReadable (root version : List ℕ) (headers : List Header) : Type 0 where
  pub holds : AllHold (rules_of_root_header root)
  pub version_is : version ≡ version_of root
  pub count : ℕ
  pub counted : IsReadableCount root count
  pub headers_are : headers ≡ headers_before root count
