use Rattle.declarations.proofs.Prelude.{◌∙◌, ◌-◌, ◌≤◌, List, ap, arith, filter, All-filter, All-same, Param, KeyedRow, has_key}
use Rattle.declarations.proofs.params.Params.new.Goals as goal

pub returns-clause-rows : goal.returns-clause-rows
returns-clause-rows g c = λ model shown.
    let rows = c.holds_one.ensures.rows model shown Param in
    let count = c.count.ensures.rows in
    let least = c.min.ensures in
    let end = c.max-past.ensures in
    let most = c.max.ensures in
    let begin = c.min-first.ensures in (
      c.min-first.result,
      c.max-past.result - c.min-first.result,
      λ position. c.in_ok-sort_by_key.ensures.stable position ∙ ap (λ (rows : List KeyedRow). filter (has_key position) rows) (c.in_ok-found.ensures.rows model shown),
      λ row. (
        λ is. (omega (arith, is.0.0, is.0.1, is.1, is.2, rows, count, least, end, most, begin), omega (arith, is.0.0, is.0.1, is.1, is.2, rows, count, least, end, most, begin)),
        λ is. ((omega (arith, is.0, is.1, rows, count, least, end, most, begin), omega (arith, is.0, is.1, rows, count, least, end, most, begin)), omega (arith, is.0, is.1, rows, count, least, end, most, begin), omega (arith, is.0, is.1, rows, count, least, end, most, begin)),
      ),
    )

pub invariant_of-result-clause-within : goal.invariant_of-result-clause-within
invariant_of-result-clause-within g c = λ key.
    let read = c.in_ok-found.found.items in
    let within : KeyedRow → Type 0 = λ param. (1 ≤ param.row) × (param.row ≤ g.S.ReadMetadata.row_count c.args.source.now Param) in
    All-same within _ (filter (has_key key) read) (c.in_ok-sort_by_key.ensures.stable key) (All-filter (has_key key) within read c.in_ok-found.ensures.within)
