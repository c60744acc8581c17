use Rattle.sig_items.proofs.ItemBytes.{items_encoded, items_encodable}
use Rattle.sig_items.proofs.laws.items_are_encoded.Goals as goal

pub returns-clause-encoded : goal.returns-clause-encoded
returns-clause-encoded c = items_encoded

pub returns-clause-encodable : goal.returns-clause-encodable
returns-clause-encodable c = items_encodable
