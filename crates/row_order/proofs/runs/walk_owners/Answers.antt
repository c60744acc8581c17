use Rattle.row_order.proofs.Prelude.{ℕ, ◌≡◌, ◌+◌, ◌-◌, sym, ◌∙◌, ap, arith, none_from, rows_in, number_of, start_of, in_place, rules_of_start, owner_of, cell_of, member_of}
use Rattle.reading.proofs.StartLemmas.{start_past}
use Rattle.row_order.proofs.Starts.{start_by, falls_step}
use Rattle.row_order.proofs.runs.walk_owners.Goals as goal

pub loop-row-init : goal.loop-row-init
loop-row-init c =
    let source = c.args.source.now.source in
    let list = c.args.list in
    let count = c.count-count.result in
    let starts : ℕ → ℕ = λ r. start_of source (owner_of list) r (cell_of list) (member_of list) in
    let owners : count ≡ rows_in source (owner_of list) = c.count-count.ensures.value ∙ ap (rows_in source) c.owner-owner.ensures in
    let members : c.count.result ≡ rows_in source (member_of list) = c.count.ensures.value ∙ ap (rows_in source) c.member.ensures.value in
    let past : c.count.result + 1 ≡ starts (count + 1) =
    ap (λ n. n + 1) members ∙ sym (start_past source (owner_of list) (count + 1) (cell_of list) (member_of list) (omega (arith, owners))) in
    let number : c.number.result ≡ number_of source (owner_of list) count (cell_of list) =
    c.number.ensures ∙ c.column-numbers.ensures.numbers count (omega (arith, owners, c.requires)) (omega (arith, c.count-count.ensures.value))
    ∙ ap (λ t. number_of source t count c.cell.result) c.owner-owner.ensures ∙ ap (number_of source (owner_of list) count) c.cell.ensures.value in
    let back : count - 1 + 1 ≡ count = omega (arith, owners, c.requires) in
    record {
      row = omega (arith, owners, c.requires);
      first = c.start_by-first.ensures ∙ start_by source list count c.number.result (c.count.result + 1) (omega (arith, owners)) number past ∙ ap starts (sym back);
      falls = none_from (rules_of_start (in_place c.args.source.now) list) (count - 1 + 2) (count - (count - 1 + 1)) (omega arith);
      within = tt;
    }

pub loop-row-preserved : goal.loop-row-preserved
loop-row-preserved c =
    let here = c.args.source.now in
    let list = c.args.list in
    let before = c.loop-row.invariant in
    let row = c.loop-row.row in
    let starts : ℕ → ℕ = λ r. start_of here.source (owner_of list) r (cell_of list) (member_of list) in
    let owners : c.count-count.result ≡ rows_in here.source (owner_of list) = c.count-count.ensures.value ∙ ap (rows_in here.source) c.owner-owner.ensures in
    let number : c.number-in-loop-row.result ≡ number_of here.source (owner_of list) row (cell_of list) =
    c.number-in-loop-row.ensures ∙ c.column-numbers.ensures.numbers row (omega arith) (omega (arith, before.row, c.count-count.ensures.value))
    ∙ ap (λ t. number_of here.source t row c.cell.result) c.owner-owner.ensures ∙ ap (number_of here.source (owner_of list) row) c.cell.ensures.value in
    let start : c.start_by-start.result ≡ starts row =
    c.start_by-start.ensures ∙ start_by here.source list row c.number-in-loop-row.result c.loop-row.first (omega (arith, before.row, owners)) number before.first in
    let again : row - 1 + 1 ≡ row = omega arith in
    record {
      row = omega (arith, before.row);
      first = start ∙ ap starts (sym again);
      falls = falls_step here list row c.count-count.result c.loop-row.first c.start_by-start.result c.loop-row.falls c.fallen-falls.result
          (omega arith) before.row before.first start before.falls c.fallen-falls.ensures.value;
      within = c.fallen-falls.ensures.within c.count-count.result before.row before.within;
    }

pub returns-clause-falls : goal.returns-clause-falls
returns-clause-falls c =
    let none : c.loop-row.row ≡ 0 = omega arith in
    let owners = c.count-count.ensures.value ∙ ap (rows_in c.args.source.now.source) c.owner-owner.ensures in
    rw (none, owners) at c.loop-row.invariant.falls
