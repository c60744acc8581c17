use Rattle.std.proofs.Common.{refl}
use Rattle.checks.proofs.PassedLemmas.{none_padded}
use Rattle.checks.proofs.texts.Texts.new.Goals as goal

pub invariant_of-result : goal.invariant_of-result
invariant_of-result c = record {
  sure = c.find_sure_end.ensures;
  part = refl;
  starts = record {
    low = λ slot some. absurd (some (none_padded slot));
    long = λ slot some. absurd (some (none_padded slot));
  };
}
