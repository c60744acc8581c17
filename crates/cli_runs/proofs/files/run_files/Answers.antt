use Rattle.cli_runs.proofs.Prelude.{◌∙◌, List, ℕ, ap, inl, map, Bor}
use Rattle.cli_runs.proofs.files.run_files.Goals as goal

pub returns-in-Ok-clause-run : goal.returns-in-Ok-clause-run
returns-in-Ok-clause-run g c =
    inl (rw (ap (λ (items : List (Bor (List ℕ))). map (λ name. name.now) items) c.as_slice.ensures.value ∙ c.in-Ok.ensures) at c.run_each.ensures.run)
