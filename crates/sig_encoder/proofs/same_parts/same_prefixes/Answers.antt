use Rattle.std.proofs.lemmas.Slice.Eq.{slice_eq-Decides}
use Rattle.sig_encoder.proofs.SameLemmas.{prefix_decides}
use Rattle.sig_encoder.proofs.same_parts.same_prefixes.Goals as goal

pub returns : goal.returns
returns c = slice_eq-Decides prefix_decides _ _ _ c.eq.ensures
