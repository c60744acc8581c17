-- Search finds these too. They are written so that a check that refuses an edit of this function ends sooner.
use Rattle.std.proofs.Common.{rules}
use Rattle.type_records.proofs.methods.MethodImplFromRow.from_row.Goals as goal

pub returns : goal.returns
returns g c = search rules
