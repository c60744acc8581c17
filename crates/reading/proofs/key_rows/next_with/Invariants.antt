use Rattle.reading.proofs.Prelude.{◌≢◌, ℕ, ◌<◌, ◌≤◌, key_at}
use Rattle.reading.proofs.key_rows.next_with.Given as goal

abbrev pub invariant-loop-row : goal.invariant-loop-row
invariant-loop-row g l =
    (earlier : ℕ) → l.first ≤ earlier → earlier < l.row → key_at (g.K.KeyNumbers.numbers l.keys) earlier ≢ l.number
