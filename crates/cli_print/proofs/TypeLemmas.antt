-- The members of a type (ECMA-335 II.22.37).
use Rattle.cli_print.proofs.Prelude.{◌≡◌, ◌≤◌, ◌-◌, ℕ, arith, ap, refl, TypeDef, Metadata, count_in, member_count}
use Rattle.std.proofs.lemmas.Bool.{cases_lt, le-ltb, lt-ltb}
use Rattle.std.proofs.Math.Logic.{⊎_elim}
use Rattle.table_schema.specs.declared.table.TableId.{TableId}
use Rattle.metadata.specs.Lookups.{IsRun}

-- the number of a type's members is that of the rows in its run
pub run_counted : (model : Metadata) (cell_index : ℕ) (member : TableId) (row first past : ℕ) → row ≤ count_in model TypeDef → IsRun model TypeDef cell_index member row first past
    → past - first ≡ member_count model cell_index member row
unfolding member_count
run_counted model cell_index member row first past within run = ⊎_elim
    (λ more. rw (lt-ltb row (count_in model TypeDef) more, run.next more, run.start) refl)
    (λ all. rw (le-ltb row (count_in model TypeDef) all, run.start) (ap (λ n. n - first) (run.last (omega (arith, all, within)))))
    (cases_lt row (count_in model TypeDef))
