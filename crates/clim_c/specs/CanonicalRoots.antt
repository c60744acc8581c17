-- The calls that make the canonical root of a view (II.24.2).
use Rattle.std.specs.Prelude.{◌≡◌, ◌⊎◌, ◌-◌, ◌^◌, ◌<◌, ℕ, List, Bool, true, false, length}
use Rattle.metadata.specs.Metadata.{Metadata}
use Rattle.metadata.specs.Model.{IsModel}
use Rattle.root_writer.specs.Canonical.{canonical}

-- no root is made: the view is not open; or its canonical root is longer than 2^30 bytes; or memory ran out
abbrev pub IsNoRoot : Bool → List ℕ → ℕ → Type 0
IsNoRoot is_open root reason =
    ((reason ≡ 0) × (is_open ≡ false))
    ⊎ (((reason ≡ 2 ^ 64 - 1) × (is_open ≡ true) × ((model : Metadata) → IsModel root model → 2 ^ 30 < length (canonical model)))
    ⊎ ((reason ≡ 2 ^ 64 - 2) × (is_open ≡ true)))
