-- The first row that breaks a rule for cells, and its fault.
use Rattle.checks.proofs.Prelude.{◌≡◌, false, true, List, Result, Ok, Err, is_err, sym, subst, arith, false≢true, Rule, AllHold, FirstBroken, Reports, none_fails, before_fails, TableId, rows_in, SourceAt, table_at, rules_of_cells, rules_of_table, rules_of_table_at, rules_of_row, IsBroken, BrokenRow}
use Rattle.packed.specs.declared.fault.Fault.{Fault}

-- rules whose check does not fail hold, and rules whose check fails do not
pub passes : {X : Type 0} (ds : List (Rule Fault)) (r : Result X Fault) → Reports ds r → is_err r ≡ false → AllHold ds
passes ds (Ok x) all is = all
passes ds (Err found) first is = absurd (false≢true (sym is))

pub breaks : {X : Type 0} (ds : List (Rule Fault)) (r : Result X Fault) → Reports ds r → is_err r ≡ true → ¬ AllHold ds
breaks ds (Ok x) all is = absurd (false≢true is)
breaks ds (Err found) first is = λ all. none_fails ds found all first

-- the fault of the first broken row is the first fault of all cells
pub row_reports : {X : Type 0} (here : SourceAt) (at : BrokenRow) (table : TableId) (r : Result X Fault) → IsBroken here at → table ≡ table_at at.table_index
    → Reports (rules_of_row here table at.row) r → Reports (rules_of_cells here) r
unfolding rules_of_cells rules_of_table rules_of_table_at
row_reports here at table (Ok x) is same all = absurd (is.row.broken (subst (λ (t : TableId). AllHold (rules_of_row here t at.row)) same all))
row_reports here at table (Err found) is same first =
    before_fails (rules_of_table_at here) 0 at.table_index 38 found is.tables (omega arith) (omega (arith, is.listed))
    (before_fails (rules_of_row here (table_at at.table_index)) 1 at.row (rows_in here.source (table_at at.table_index)) found is.row.before is.row.first
    (omega (arith, is.row.last)) (subst (λ (t : TableId). FirstBroken (rules_of_row here t at.row) found) same first))
