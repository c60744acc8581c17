use Rattle.checks.proofs.Prelude.{ℕ, ◌≤◌, ◌<◌, Ok, number_of}
use Rattle.std.specs.Option.{IfSome}
use Rattle.checks.proofs.column.first_refused.Given as goal

abbrev pub invariant-loop-row : goal.invariant-loop-row
invariant-loop-row g l = record {
  before : (row : ℕ) → 1 ≤ row → row < l.row → goal.F-post g l.check (number_of l.source.source l.fn.table row l.fn.column) (Ok tt);
  passed : IfSome l.passed (λ number. goal.F-post g l.check number (Ok tt));
}
