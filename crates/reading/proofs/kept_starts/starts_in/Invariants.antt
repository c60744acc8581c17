use Rattle.reading.proofs.Prelude.{◌≡◌, ◌≤◌, ◌<◌, ◌*◌, ◌+◌, start_of, IsKnown}
use Rattle.reading.proofs.kept_starts.starts_in.Given as goal

abbrev pub invariant-loop-kept : goal.invariant-loop-kept
invariant-loop-kept l = record {
  step : l.known.step ≡ l.step;
  room : l.count < 256 * l.step;
  behind : l.kept * l.step < l.«end»;
  within : l.«end» ≤ l.count + 1;
  start : l.start ≡ start_of l.source.source l.owner l.«end» l.column l.member;
  known : IsKnown l.known (λ row. start_of l.source.source l.owner row l.column l.member) (l.kept * l.step + 1) l.count;
}

abbrev pub decreases-loop-kept : goal.decreases-loop-kept
decreases-loop-kept l = l.kept
