-- Search finds these too. They are written so that a check that refuses an edit of this function ends sooner.
use Rattle.std.proofs.Common.{rules}
use Rattle.signatures.proofs.signature.Signature.new.Goals as goal

pub returns-then-is_none-clause-encodable : goal.returns-then-is_none-clause-encodable
returns-then-is_none-clause-encodable c = search rules
