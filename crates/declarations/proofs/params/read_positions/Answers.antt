use Rattle.declarations.proofs.Prelude.{◌≡◌, ◌∙◌, ℕ, ◌+◌, ◌-◌, ◌≤◌, ◌∷◌, [], ◌++◌, List, ap, arith, sym, All-cons, All-nil, All-same, All-append, Param, KeyedRow, keyed_row, keyed_rows, position_in, number_in}
use Rattle.std.proofs.lemmas.List.FromFn.{map-range_with_len_more}
use Rattle.declarations.proofs.params.read_positions.Goals as goal

pub loop-row-preserved : goal.loop-row-preserved
loop-row-preserved g c =
    let row = c.loop-row.row in
    let first = c.args.first in
    let read = c.loop-row.read.items in
    let from = c.loop-row.auto.row in
    let next : first + (row - first) ≡ row = omega (arith, from) in
    let same : row - first + 1 ≡ row + 1 - first = omega (arith, from) in
    let within : KeyedRow → Type 0 = λ param. (1 ≤ param.row) × (param.row ≤ g.S.ReadMetadata.row_count c.args.source.now Param) in
    record {
      within = All-same within _ (read ++ record { key = c.number-key.result; row = row } ∷ []) c.in_ok-push.ensures.items
          (All-append within read _ c.loop-row.invariant.within (All-cons within _ [] (omega (arith, c.requires.first, from), omega (arith, c.loop-row-test.true, c.requires.last)) (All-nil within)));
      rows = λ model shown.
          let number = position_in model in
          c.in_ok-push.ensures.items ∙ ap (λ (key : ℕ). read ++ record { key = key; row = row } ∷ []) (sym (ap number_in (c.number-key.ensures model shown)))
          ∙ ap (λ (rows : List KeyedRow). rows ++ keyed_row number row ∷ []) (c.loop-row.invariant.rows model shown)
          ∙ sym (map-range_with_len_more (keyed_row number) first (row - first) row next) ∙ ap (λ n. keyed_rows number first n) same;
    }

pub returns-clause-rows : goal.returns-clause-rows
returns-clause-rows g c = λ model shown.
    let last = c.loop-row.auto.row-end c.requires.ordered in
    let all : c.loop-row.row - c.args.first ≡ c.args.past - c.args.first = omega (arith, last, c.loop-row-test.false) in
    c.loop-row.invariant.rows model shown ∙ ap (λ n. keyed_rows (position_in model) c.args.first n) all
