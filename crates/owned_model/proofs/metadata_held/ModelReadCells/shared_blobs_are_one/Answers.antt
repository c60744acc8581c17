use Rattle.std.proofs.Common.{◌≡◌, ℕ, None, Some}
use Rattle.owned_model.proofs.metadata_held.ModelReadCells.shared_blobs_are_one.Goals as goal

no_index : (index : ℕ) → (None ≡ Some index) → ⊥
no_index index is = cc

pub returns : goal.returns
returns c = λ model is first second here there share. absurd (no_index share.index share.first_index)
