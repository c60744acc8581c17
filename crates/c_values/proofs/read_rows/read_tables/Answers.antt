use Rattle.c_values.proofs.Prelude.{[], length, ap, ◌∙◌, arith, take_all, Metadata, rows_of, IsFirstBadRow, MatchNoRoot, common_steps}
use Rattle.c_values.proofs.OneLemmas.{table_one}
use Rattle.c_values.proofs.RowLemmas.{given_more}
use Rattle.c_values.proofs.StepLemmas.{next_row, first_bad_row}
use Rattle.c_values.proofs.read_rows.read_tables.Goals as goal

pub loop-row-init : goal.loop-row-init
loop-row-init c =
    let e = c.set_user.ensures in
    record {
      utf8 = c.utf8.version;
      has_version = ap (λ (m : Metadata). m.version) e ∙ c.in_ok-tables.ensures.version;
      has_user = ap (λ (m : Metadata). m.user) e ∙ c.in_ok-to_vec.ensures.items_if_clones_equal (λ x y e. e);
      rows = [];
      given_rows = tt;
      tables = ap (λ (m : Metadata). length m.tables) e ∙ c.in_ok-tables.ensures.tables;
      cells = λ table. ap (λ (m : Metadata). rows_of m table) e ∙ c.in_ok-tables.ensures.rows table;
    }

pub loop-row-preserved : goal.loop-row-preserved
loop-row-preserved c =
    let one = table_one c.tables_stand.ensures.rise c.tables_stand.ensures.stand in
    let added = c.rows_are_added.ensures in
    next_row (given_more one added.table added.others added.tables) c.args.version.now c.args.user.now c.args.rows.now c.loop-row.row-index _ c.loop-row.tables c.add_row.new.tables
    (omega arith) c.loop-row.invariant c.in_ok-add_row.ensures.added

pub returns-clause-given : goal.returns-clause-given
returns-clause-given c = rw (take_all c.loop-row.row-index c.args.rows.now (omega arith)) at c.loop-row.invariant

pub returns-in_err-add_row-clause-refused : goal.returns-in_err-add_row-clause-refused
returns-in_err-add_row-clause-refused c =
    let bad : MatchNoRoot (IsFirstBadRow c.args.rows.now) ⊥ c.in_err-add_row.field-0.0 =
    first_bad_row c.args.version.now c.args.user.now c.args.rows.now c.loop-row.row-index _ c.loop-row.tables c.in_err-add_row.field-0.0 (omega arith) c.loop-row.invariant
    c.in_err-add_row.ensures.refused in
    grind (arith, common_steps, bad)
