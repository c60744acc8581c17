use Rattle.navigation.proofs.Prelude.{◌∙◌, ◌+◌, ◌<◌, ◌≤◌, ap, arith, map, filter, All-same, All-weaker, row_count, KeyedRow, has_key, row_of, number_in, table_of}
use Rattle.navigation.proofs.KeyedLemmas.{keyed_among}
use Rattle.navigation.proofs.LinkModelLemmas.{rows_linked}
use Rattle.navigation.proofs.neighbours.Neighbours.linked.Goals as goal

pub returns-clause-within : goal.returns-clause-within
returns-clause-within c =
    let number = number_in c.args.self.now.view.now c.args.link in
    let count = row_count c.args.self.now.view.now (table_of c.args.link) in
    let rows = c.references.result.now in
    let within : KeyedRow → Type 0 = λ found. (1 ≤ found.row) × (found.row ≤ count) in
    All-same within c.with_key.result.now (filter (has_key c.args.number) rows) c.with_key.ensures
    (All-weaker (λ found. (1 ≤ found.row) × (found.row < 1 + count)) within (λ found is. let last = is.1 in (is.0, omega arith)) _ (keyed_among number 1 count c.args.number rows c.references.ensures))

pub returns-clause-rows : goal.returns-clause-rows
unfolding row_count
returns-clause-rows c = λ model is token same.
    let root = c.args.self.now.view.now in
    ap (map row_of) c.with_key.ensures ∙ c.references.ensures.with_key c.args.number
    ∙ rows_linked root model (c.models_are_read.ensures.cells root model is) (c.keys_are_in_order.ensures.numbers root model is)
    (c.models_are_read.ensures.count root model is) c.args.link c.args.number token same
