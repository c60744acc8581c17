use Rattle.checks.proofs.Prelude.{◌≡◌, ◌/◌, slice_index, AreStarts}
use Rattle.checks.proofs.texts.keep_endings.Given as goal

abbrev pub invariant-loop-later : goal.invariant-loop-later
invariant-loop-later l = record {
  are : AreStarts l.heap l.part l.starts;
  same : slice_index l.starts (l.index / l.part) ≡ slice_index l.initial.starts (l.index / l.part);
}
