use Rattle.rows.proofs.Prelude.{◌≡◌, ℕ, ◌+◌, ◌-◌, ◌<◌, ◌≤◌, length, key_at, binary_digits}
use Rattle.rows.proofs.HalvingLemmas.{Halves}
use Rattle.rows.proofs.keys.first_at_least.Given as goal

abbrev pub invariant-loop-low : goal.invariant-loop-low
invariant-loop-low g l = record {
  same : g.K.Keys.keys l.keys ≡ g.K.Keys.keys l.fn.keys;
  from : l.fn.low ≤ l.low;
  ordered : l.low ≤ l.high;
  to : l.high ≤ length (g.K.Keys.keys l.fn.keys) + 1;
  below : (row : ℕ) → 1 ≤ row → row < l.low → key_at (g.K.Keys.keys l.fn.keys) row < l.limit;
  above : (row : ℕ) → l.high ≤ row → row ≤ length (g.K.Keys.keys l.fn.keys) → l.limit ≤ key_at (g.K.Keys.keys l.fn.keys) row;
  halves : Halves (l.high - l.low) (g.K.Keys.asked l.keys) (g.K.Keys.asked l.fn.keys + binary_digits (length (g.K.Keys.keys l.fn.keys)));
}

abbrev pub decreases-loop-low : goal.decreases-loop-low
decreases-loop-low g l = l.high - l.low
