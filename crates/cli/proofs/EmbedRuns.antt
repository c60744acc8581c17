-- What holds of the runs of `embed`, if something stronger does.
use Rattle.std.proofs.Common.{◌⊎◌, ℕ, List, Option, Some, None, inl, inr}
use Rattle.std.proofs.lemmas.Result.{MatchResult-weaker}
use Rattle.cli_files.specs.Stopped.{Outcome}
use Rattle.cli_roots.specs.Embedded.{IsRootRun}
use Rattle.cli_roots.specs.Runs.{IsFileRun, IsMixed}

module _ {W : Type 0} (before after : W) (outcome : Outcome) (run more : List ℕ → Option (List ℕ) → Outcome → Type 0) where
  root_run : (bytes : List ℕ) (path : Option (List ℕ)) → IsRootRun before after path (λ given result. run bytes given result × more bytes given result) outcome
      → IsRootRun before after path (run bytes) outcome
  root_run bytes None done = done.0
  root_run bytes (Some path) done = (done.0, MatchResult-weaker done.0 done.1 (λ root both. both.0) (λ failure refused. refused))

  -- a run of `embed` of which more is known
  pub embed_run : (file out : List ℕ) (path : Option (List ℕ))
      → IsFileRun before after file (λ bytes. IsRootRun before after path (λ given result. run bytes given result × more bytes given result)) outcome ⊎ IsMixed before after out outcome
      → IsFileRun before after file (λ bytes. IsRootRun before after path (run bytes)) outcome ⊎ IsMixed before after out outcome
  embed_run file out path (inl done) = inl (done.0, MatchResult-weaker done.0 done.1 (λ bytes. root_run bytes path) (λ failure refused. refused))
  embed_run file out path (inr mixed) = inr mixed
