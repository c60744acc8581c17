use Rattle.checks.proofs.Prelude.{◌≡◌, ◌-◌, List, get_or, ap, ◌∙◌, arith, err_from_is_err_and, before_none, before_more, before_all, TableId, Module, rules_of_cells, rules_of_table_at, table_at, sum_below, rows_text_bytes, table_text_bytes, text_bytes, text_bytes_to}
use Rattle.checks.proofs.Spending.{none_taken, part_taken, takes_more}
use Rattle.checks.proofs.SpendingTexts.{rows_spent}
use Rattle.checks.proofs.cell_checks.first_broken_within.Goals as goal

pub loop-table_index-init : goal.loop-table_index-init
loop-table_index-init c = record {
  texts = c.new-texts.ensures ∙ c.texts.ensures;
  hold = before_none _ _ _ (omega arith);
  takes = none_taken (table_text_bytes c.args.source.now.source) c.args.budget.now;
}

pub loop-table_index-preserved : goal.loop-table_index-preserved
unfolding rules_of_table_at table_text_bytes
loop-table_index-preserved c =
    let listed = ap (λ (l : List TableId). get_or l c.loop-table_index.table_index Module) c.all-tables.ensures.value in
    record {
      texts = c.broken_row.ensures.texts ∙ c.loop-table_index.invariant.texts;
      hold = before_more _ _ _ c.loop-table_index.invariant.hold (rw (listed, c.in_default.is) at c.in_ok-found.ensures.broken);
      takes = part_taken (table_text_bytes c.args.source.now.source) c.loop-table_index.table_index c.args.budget.now c.loop-table_index.budget c.broken_row.new.budget
          c.loop-table_index.invariant.takes (rw (listed, c.in_default.is) at c.in_ok-found.ensures.takes);
    }

pub returns-in-Some-clause-first : goal.returns-in-Some-clause-first
returns-in-Some-clause-first c =
    let listed = ap (λ (l : List TableId). get_or l c.loop-table_index.table_index Module) c.all-tables.ensures.value in
    record {
      listed = omega arith;
      tables = c.loop-table_index.invariant.hold;
      row = rw (listed, c.in-Some.is) at c.in_ok-found.ensures.broken;
    }

pub returns-in-Some-clause-takes : goal.returns-in-Some-clause-takes
unfolding text_bytes_to
returns-in-Some-clause-takes c =
    let listed = ap (λ (l : List TableId). get_or l c.loop-table_index.table_index Module) c.all-tables.ensures.value in
    let source = c.args.source.now.source in
    let table_index = c.loop-table_index.table_index in
    takes_more c.args.budget.now c.loop-table_index.budget c.broken_row.new.budget (sum_below (table_text_bytes source) table_index)
    (rows_text_bytes source (table_at table_index) (c.in-Some.row - 1)) c.loop-table_index.invariant.takes (rw (listed, c.in-Some.is) at c.in_ok-found.ensures.takes)

pub returns-in_err-found-clause-spent : goal.returns-in_err-found-clause-spent
returns-in_err-found-clause-spent c =
    let p = err_from_is_err_and c.from_residual.result c.from_residual.ensures.1 in
    let listed = ap (λ (l : List TableId). get_or l c.loop-table_index.table_index Module) c.all-tables.ensures.value in
    let spent = c.in_err-found.ensures.spent in
    rw p.1 (
      p.2 ∙ spent.0,
      rows_spent c.args.source.now c.loop-table_index.table_index _ c.args.budget.now c.loop-table_index.budget listed (omega arith)
          c.loop-table_index.invariant.hold c.loop-table_index.invariant.takes spent.1,
    )

pub returns-clause-first : goal.returns-clause-first
unfolding rules_of_cells
returns-clause-first c = before_all _ _ _ _ c.loop-table_index.invariant.hold (omega arith)

pub returns-clause-takes : goal.returns-clause-takes
unfolding text_bytes
returns-clause-takes c =
    let all : c.loop-table_index.table_index ≡ 38 = omega (arith, c.all-tables.ensures.count) in
    rw (← all) c.loop-table_index.invariant.takes
