use Rattle.owned_model.proofs.Prelude.{◌≡◌, ℕ, ◌<◌, List, [], ◌++◌, length, take, drop, get_or, sym, ap, ◌∙◌, arith, TableId, Module, table_index_of, Metadata, rows_of, with_rows}
use Rattle.table_schema.proofs.TableFacts.{table_index_at}
use Rattle.metadata.specs.Cell.{Cell}
use Rattle.owned_model.proofs.PaddingLemmas.{next_left, padded_length, all_padded, next_table}
use Rattle.owned_model.proofs.table_rows.load_tables.Goals as goal

pub loop-table-preserved : goal.loop-table-preserved
loop-table-preserved c = λ model is.
    let old : Metadata = c.args.tables.now in
    let j = c.loop-table.table-index in
    let table = get_or c.all-table-items.result.now j Module in
    let below : j < 38 = omega (arith, c.all-table-items.ensures.count) in
    let at : table_index_of table ≡ j =
    ap (λ (listed : List TableId). table_index_of (get_or listed j Module)) c.all-table-items.ensures.value ∙ table_index_at j below in
    let zero_padded = c.models_are_read.ensures.tables c.args.view.now model is in
    let invariant = c.loop-table.invariant model is in
    let made : List (List (List Cell)) = take j model.tables ++ drop j old.tables in
    let full : length c.loop-table.tables.tables ≡ 38 =
    ap (λ (m : Metadata). length m.tables) invariant ∙ padded_length model.tables old.tables j (zero_padded ∙ sym c.requires.tables) ∙ c.requires.tables in
    let empty : rows_of c.loop-table.tables table ≡ [] =
    ap (λ (m : Metadata). rows_of m table) invariant ∙ ap (λ (i : ℕ). get_or made i []) at
    ∙ next_left model.tables old.tables [] j (omega (arith, zero_padded)) (omega (arith, c.requires.tables))
    ∙ sym (ap (λ (i : ℕ). get_or old.tables i []) at) ∙ c.requires.empty table in
    c.in_ok-load_rows.ensures model is full empty
    ∙ ap (λ (m : Metadata). with_rows m table (rows_of model table)) invariant
    ∙ next_table model old table j zero_padded c.requires.tables below at

pub returns : goal.returns
returns c = λ model is.
    let old : Metadata = c.args.tables.now in
    let j = c.loop-table.table-index in
    let zero_padded = c.models_are_read.ensures.tables c.args.view.now model is in
    let all : length model.tables ≡ j = omega (arith, zero_padded, c.all-table-items.ensures.count) in
    c.loop-table.invariant model is
    ∙ ap (λ (t : List (List (List Cell))). let m : Metadata = record old { tables = t } in m) (all_padded model.tables old.tables (zero_padded ∙ sym c.requires.tables) j all)
