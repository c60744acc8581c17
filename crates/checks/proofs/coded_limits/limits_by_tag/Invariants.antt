use Rattle.checks.proofs.Prelude.{◌≡◌, length, AreLimits}
use Rattle.checks.proofs.coded_limits.limits_by_tag.Given as goal

abbrev pub invariant-loop-tag : goal.invariant-loop-tag
invariant-loop-tag l = record {
  long : length l.limits ≡ 32;
  limits : AreLimits l.source.source l.coded l.limits;
}
