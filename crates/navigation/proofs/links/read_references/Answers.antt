use Rattle.navigation.proofs.Prelude.{◌≡◌, ◌∙◌, ℕ, ◌+◌, ◌-◌, ◌≤◌, ◌∷◌, [], ◌++◌, List, ap, arith, sym, row_count, KeyedRow, keyed_row, keyed_rows, number_in, table_of}
use Rattle.std.proofs.lemmas.List.FromFn.{map-range_with_len_more}
use Rattle.navigation.proofs.links.read_references.Goals as goal

pub loop-row-init : goal.loop-row-init
loop-row-init c = c.in_ok-read.ensures.items

pub loop-row-preserved : goal.loop-row-preserved
loop-row-preserved c =
    let row = c.loop-row.row in
    let number = number_in c.args.view.now c.args.link in
    let first = c.loop-row.auto.row in
    let next : 1 + (row - 1) ≡ row = omega (arith, first) in
    let same : row - 1 + 1 ≡ row + 1 - 1 = omega (arith, first) in
    c.in_ok-push.ensures.items ∙ ap (λ (key : ℕ). c.loop-row.read.items ++ record { key = key; row = row } ∷ []) c.number.ensures
    ∙ ap (λ (rows : List KeyedRow). rows ++ keyed_row number row ∷ []) c.loop-row.invariant ∙ sym (map-range_with_len_more (keyed_row number) 1 (row - 1) row next) ∙ ap (λ n. keyed_rows number 1 n) same

pub returns : goal.returns
returns c =
    let count = c.count-count.ensures.rows ∙ ap (λ t. row_count c.args.view.now t) c.table.ensures in
    let some : 1 ≤ c.count-count.result + 1 = omega arith in
    let last = c.loop-row.auto.row-end some in
    let all : c.loop-row.row - 1 ≡ row_count c.args.view.now (table_of c.args.link) = omega (arith, last, c.loop-row-test.false, count) in
    c.loop-row.invariant ∙ ap (λ n. keyed_rows (number_in c.args.view.now c.args.link) 1 n) all
