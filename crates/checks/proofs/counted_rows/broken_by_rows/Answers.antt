use Rattle.checks.proofs.Prelude.{◌≡◌, ◌+◌, ◌-◌, ℕ, refl, sym, ap, subst, ◌∙◌, arith, before_none, before_more, before_all, rules_of_table, Takes, IsBelow, sum_below, row_text_bytes}
use Rattle.checks.proofs.Spending.{none_taken, part_taken, below_taken}
use Rattle.checks.proofs.Sums.{sum_more}
use Rattle.checks.proofs.counted_rows.broken_by_rows.Goals as goal

pub loop-row-init : goal.loop-row-init
loop-row-init c = record {
  texts = refl;
  hold = before_none _ _ _ (omega arith);
  takes = none_taken (row_text_bytes c.args.source.now.source c.args.table) c.args.budget.now;
}

pub loop-row-preserved : goal.loop-row-preserved
loop-row-preserved c =
    let bytes = row_text_bytes c.args.source.now.source c.args.table in
    let row = c.loop-row.row in
    let next : row - 1 + 1 ≡ row + 1 - 1 = omega arith in
    record {
      texts = c.row_bytes.ensures.texts ∙ c.loop-row.invariant.texts;
      hold = before_more _ _ _ c.loop-row.invariant.hold c.in-Some.ensures.holds;
      takes = subst (λ (rows : ℕ). Takes c.args.budget.now c.spend.new.self (sum_below bytes rows)) next
          (part_taken bytes (row - 1) c.args.budget.now c.loop-row.budget c.spend.new.self c.loop-row.invariant.takes
          (subst (λ (n : ℕ). Takes c.loop-row.budget c.spend.new.self n) c.in-Some.ensures.bytes c.in-Some-spend.ensures.takes));
    }

pub returns-in_default-spend-clause-spent : goal.returns-in_default-spend-clause-spent
returns-in_default-spend-clause-spent c =
    let bytes = row_text_bytes c.args.source.now.source c.args.table in
    let row = c.loop-row.row in
    let all : sum_below bytes (row - 1) + c.in-Some.bytes ≡ sum_below bytes row =
    ap (λ n. sum_below bytes (row - 1) + n) c.in-Some.ensures.bytes ∙ sym (sum_more bytes (row - 1)) ∙ ap (sum_below bytes) (omega arith) in (
      refl,
      record {
        rows = row;
        last = omega arith;
        held = before_more _ _ _ c.loop-row.invariant.hold c.in-Some.ensures.holds;
        below = subst (IsBelow c.args.budget.now) all
            (below_taken c.args.budget.now c.loop-row.budget (sum_below bytes (row - 1)) c.in-Some.bytes c.loop-row.invariant.takes c.in_default-spend.ensures.spent);
      },
    )

pub returns-clause-broken : goal.returns-clause-broken
unfolding rules_of_table
returns-clause-broken c = before_all _ _ _ _ c.loop-row.invariant.hold (omega arith)
