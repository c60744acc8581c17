-- The bytes of a root that are ready to be sent (ECMA-335 II.24.2).
use Rattle.std.specs.Prelude.{◌≡◌, ℕ, ◌^◌, ◌≤◌, List, length}
use Rattle.metadata.specs.Metadata.{Metadata}
use Rattle.metadata.specs.Valid.{IsValid}
use Rattle.root_writer.specs.Canonical.{canonical}

-- they are the canonical root of some valid model, and at most 2^30 bytes
pub record IsPrepared (bytes : List ℕ) : Type 0 where
  pub root : ∥ ((model : Metadata) × IsValid model × (bytes ≡ canonical model)) ∥₁
  pub small : length bytes ≤ 2 ^ 30
