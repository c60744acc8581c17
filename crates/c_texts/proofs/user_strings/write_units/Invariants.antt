use Rattle.c_texts.proofs.Prelude.{◌≡◌, length, take, drop, zero_padded, units_in}
use Rattle.c_texts.proofs.UserLemmas.{part}
use Rattle.c_texts.proofs.user_strings.write_units.Given as goal

-- the units so far are written, and the others are unchanged
abbrev pub invariant-loop-k : goal.invariant-loop-k
invariant-loop-k l = record {
  written : take l.k l.units ≡ take l.k (units_in (part (zero_padded l.heap) l.start l.count));
  same : drop l.k l.units ≡ drop l.k l.fn.units;
  long : length l.units ≡ length l.fn.units;
}
