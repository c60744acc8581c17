use Rattle.clim_c.proofs.Prelude.{inl, inr, refl}
use Rattle.clim_c.proofs.canonical_root.canonical_root.Goals as goal

pub returns-in-Err-TooLarge-clause-refused : goal.returns-in-Err-TooLarge-clause-refused
returns-in-Err-TooLarge-clause-refused c = inr (inl (
  refl,
  c.in-Some.ensures.sound.1,
  rw (c.in-Some.ensures.sound.0, c.in-Err-TooLarge.field-0-is) at c.in-Err-TooLarge.ensures.refused,
))
