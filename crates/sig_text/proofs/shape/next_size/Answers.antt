use Rattle.sig_text.proofs.Prelude.{arith, refl, ◌<◌, number_or}
use Rattle.sig_text.proofs.ShapeShown.{next_some}
use Rattle.sig_text.proofs.shape.next_size.Goals as goal

pub returns : goal.returns
returns c = let lt : 0 < c.args.left = omega arith in rw (next_some number_or c.args.left c.args.bytes.now lt, ← c.number-size.ensures) refl
