use Rattle.std.proofs.Common.{refl}
use Rattle.owned_model.proofs.valid_model.Model.row.Goals as goal

pub returns-clause-fields : goal.returns-clause-fields
returns-clause-fields g c = c.row.ensures.fields c.args.self.now refl
