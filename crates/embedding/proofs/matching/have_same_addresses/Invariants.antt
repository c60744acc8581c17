use Rattle.embedding.proofs.Prelude.{◌≡◌, ◌<◌, ◌≤◌, ℕ, number_of, source_of}
use Rattle.embedding.proofs.matching.have_same_addresses.Given as goal

-- the rows before this one have the same addresses
abbrev pub invariant-loop-row : goal.invariant-loop-row
invariant-loop-row l = (k : ℕ) → 1 ≤ k → k < l.row → number_of (source_of l.root) l.table k 0 ≡ number_of (source_of l.other) l.table k 0
