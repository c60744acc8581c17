use Rattle.owned_model.proofs.Prelude.{◌≡◌, ℕ, ◌+◌, ◌-◌, ◌≤◌, ◌<◌, List, [], length, take, get_or, ap, ◌∙◌, arith, take_all, table_index_of, all_said, Metadata, rows_of, with_row, with_rows}
use Rattle.metadata.specs.Cell.{Cell}
use Rattle.owned_model.proofs.PaddingLemmas.{next_row}
use Rattle.owned_model.proofs.table_rows.load_rows.Goals as goal

pub loop-row-preserved : goal.loop-row-preserved
loop-row-preserved c = λ model is full empty.
    let table = c.args.table in
    let old : Metadata = c.args.tables.now in
    let rows = rows_of model table in
    let i = c.loop-row.row in
    let count = c.count-count.ensures.model model is in
    let below : i < length rows = omega (arith, count) in
    let within : table_index_of table < length old.tables = omega (arith, full, c.tables_stand.ensures.table_index table) in
    let back : i + 1 - 1 ≡ i = omega arith in
    let cells = all_said c.in_ok-cells.cells.items in
    c.in-Ok.ensures.ok
    ∙ ap (λ (m : Metadata). with_row m table cells) (c.loop-row.invariant model is full empty)
    ∙ ap (λ (r : List Cell). with_row (with_rows old table (take i rows)) table r) (c.in_ok-cells.ensures model is ∙ ap (λ (k : ℕ). get_or rows k []) back)
    ∙ next_row old table rows i within below

pub returns : goal.returns
returns c = λ model is full empty.
    let rows = rows_of model c.args.table in
    let count = c.count-count.ensures.model model is in
    let past : length rows ≤ c.loop-row.row = omega (arith, count) in
    c.loop-row.invariant model is full empty ∙ ap (λ (r : List (List Cell)). with_rows c.args.tables.now c.args.table r) (take_all c.loop-row.row rows past)
