use Rattle.std.proofs.lemmas.Slice.Eq.{slice_eq-Decides}
use Rattle.sig_encoder.proofs.SameLemmas.{modifier_decides}
use Rattle.sig_encoder.proofs.same_parts.same_modifiers.Goals as goal

pub returns : goal.returns
returns c = slice_eq-Decides modifier_decides _ _ _ c.eq.ensures
