use Rattle.navigation.proofs.Prelude.{ℕ, ◌<◌, Metadata, IsMapOf}
use Rattle.navigation.proofs.maps.map_of_type.Given as goal

abbrev pub invariant-loop-map : goal.invariant-loop-map
invariant-loop-map g l = (model : Metadata) → g.S.ReadMetadata.shows l.source model → (earlier : ℕ) → earlier < l.map → ¬ IsMapOf model l.table l.row earlier
