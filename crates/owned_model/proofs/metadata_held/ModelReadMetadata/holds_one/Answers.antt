use Rattle.std.proofs.Common.{refl}
use Rattle.owned_model.proofs.metadata_held.ModelReadMetadata.holds_one.Goals as goal

pub returns-clause-shown : goal.returns-clause-shown
returns-clause-shown c = ∣ (c.args.self.now, refl) ∣₁
