use Rattle.sig_text.proofs.Prelude.{rules, arith, ◌≡◌, refl, ◌<◌, w32, signed_or, ints}
use Rattle.sig_text.proofs.ShapeShown.{next_some}
use mir.Val.{to_z, of_z, SFits}
use Rattle.sig_text.proofs.shape.next_low.Goals as goal

pub returns : goal.returns
returns c = let lt : 0 < c.args.left = omega arith in let f : SFits w32 c.signed-low.result.0 = search rules in let v : to_z w32 (of_z w32 c.signed-low.result.0) ≡ c.signed-low.result.0 = omega (arith, ints) in rw (next_some signed_or c.args.left c.args.bytes.now lt, ← c.signed-low.ensures, v) refl
