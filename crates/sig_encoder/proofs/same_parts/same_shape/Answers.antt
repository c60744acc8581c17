use Rattle.std.proofs.lemmas.Bool.Decides.{Decides-at}
use Rattle.sig_encoder.proofs.SameLemmas.{shape_decides}
use Rattle.sig_encoder.proofs.same_parts.same_shape.Goals as goal

pub returns : goal.returns
returns c = Decides-at _ _ c.eq.ensures (shape_decides c.args.shape.now c.args.other.now)
