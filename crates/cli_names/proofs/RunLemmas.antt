-- The run of an owner's members (ECMA-335 II.22.12, II.22.26, II.22.35 and II.22.37).
use Rattle.cli_names.proofs.Prelude.{◌≡◌, ℕ, zero, suc, ◌+◌, ◌-◌, ◌<◌, ◌≤◌, arith, ⊎_elim, cases_lt, le-leb, lt-leb, subst, HasRow, IsRun, Metadata, cell_in, count_in, MemberList, cell_of, member_of, owner_of, run_start, IsValid, IsWithinMembers, links_of, start_in}
use Rattle.table_schema.specs.declared.column.ColumnKind.TheVariants as kind
use Rattle.metadata.specs.Links.{IsOwned}
use Rattle.metadata.proofs.ListLemmas.{list_within, list_kind}

-- a start is at most one past the last member
starts_within : (model : Metadata) → IsValid model → (of : MemberList) (row : ℕ) → HasRow model (owner_of of) row
    → IsWithinMembers model (kind.List (member_of of)) (cell_in model (owner_of of) row (cell_of of))
starts_within model valid of row there =
    subst (λ k. IsWithinMembers model k (cell_in model (owner_of of) row (cell_of of))) (list_kind of) (valid.cells (owner_of of) row (cell_of of) there (list_within of)).within

-- starts are at least 1
module _ (model : Metadata) (of : MemberList) (owned : IsOwned (links_of model) of) where
  pub start_from : (row : ℕ) → 1 ≤ row → row ≤ count_in model (owner_of of) → 1 ≤ start_in (cell_in model (owner_of of) row (cell_of of))
  start_from zero from to = absurd (omega (arith, from))
  start_from (suc zero) from to =
      let one : start_in (cell_in model (owner_of of) (suc zero) (cell_of of)) ≡ 1 = owned.first (λ none. let no : count_in model (owner_of of) ≡ 0 = none in absurd (omega (arith, no, to))) in omega (arith, one)
  start_from (suc (suc n)) from to =
      let before = start_from (suc n) (omega arith) (omega (arith, to)) in
      let same : suc (suc n) - 1 ≡ suc n = omega arith in
      let up = subst (λ (r : ℕ). start_in (cell_in model (owner_of of) r (cell_of of)) ≤ start_in (cell_in model (owner_of of) (suc (suc n)) (cell_of of))) same (owned.rising (suc (suc n)) (omega arith) to) in
      omega (arith, before, up)

-- a run is within the table of members, and is from the start of its owner to that of the next one
module _ (model : Metadata) (of : MemberList) (row first past : ℕ) (from : 1 ≤ row) (within : row ≤ count_in model (owner_of of))
    (run : IsRun model (owner_of of) (cell_of of) (member_of of) row first past) where
  pub run_to : IsValid model → past ≤ count_in model (member_of of) + 1
  run_to valid =
      ⊎_elim
      (λ (more : row < count_in model (owner_of of)). rw (run.next more) at (starts_within model valid of (row + 1) (omega arith, omega (arith, more))))
      (λ all. let end = run.last (omega (arith, all, within)) in omega (arith, end))
      (cases_lt row (count_in model (owner_of of)))

  pub run_ends : past ≡ run_start model of (row + 1)
  run_ends =
      ⊎_elim
      (λ (more : row < count_in model (owner_of of)). rw (le-leb (row + 1) (count_in model (owner_of of)) (omega (arith, more)), run.next more))
      (λ all. rw (lt-leb (row + 1) (count_in model (owner_of of)) (omega (arith, within))) (run.last (omega (arith, all, within))))
      (cases_lt row (count_in model (owner_of of)))
