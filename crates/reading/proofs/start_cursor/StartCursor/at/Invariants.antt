use Rattle.reading.proofs.Prelude.{◌≡◌, ◌≤◌, ℕ, start_of}
use Rattle.reading.proofs.start_cursor.StartCursor.at.Given as goal

-- the owners up to this one have the same start
abbrev pub invariant-loop-later : goal.invariant-loop-later
invariant-loop-later l =
    (r : ℕ) → l.row ≤ r → r ≤ l.later
    → start_of l.source.source l.owner r l.column l.member ≡ start_of l.source.source l.owner l.row l.column l.member
