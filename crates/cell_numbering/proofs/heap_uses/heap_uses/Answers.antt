use Rattle.cell_numbering.proofs.Prelude.{◌≡◌, ℕ, ◌<◌, ◌≤◌, List, [], ◌++◌, length, get_or, take, ap, subst, ◌∙◌, arith, flat_map, TableId, Module, table_index_of, Cell, AreUsesIn}
use Rattle.table_schema.proofs.TableFacts.{table_index_at}
use Rattle.cell_numbering.proofs.UseLemmas.{next_part, all_parts, no_uses}
use Rattle.cell_numbering.proofs.heap_uses.heap_uses.Goals as goal

pub loop-table-init : goal.loop-table-init
loop-table-init g c = λ model is. no_uses _ model _ (c.new.ensures model is) c.new-2.ensures.items c.new-3.ensures.kept c.new-3.ensures.of_use

pub loop-table-preserved : goal.loop-table-preserved
loop-table-preserved g c = λ model is.
    let i = c.loop-table.table-index in
    let f = flat_map (λ (row : List Cell). row) in
    let so_far = [] ++ flat_map f (take i model.tables) in
    let full = (c.holds_one.ensures.valid model is).tables in
    let low : i < 38 = omega (arith, c.all-table-items.ensures.count, c.loop-table-test.true) in
    let below : i < length model.tables = omega (arith, low, full) in
    let at : table_index_of (get_or c.all-table-items.result.now i Module) ≡ i =
    ap (λ (listed : List TableId). table_index_of (get_or listed i Module)) c.all-table-items.ensures.value ∙ table_index_at i low in
    next_part _ model _ f [] model.tables i [] below
    (subst (λ (k : ℕ). AreUsesIn (g.S.ReadCells.heap_index c.args.source.now) model c.add_rows.new.uses (so_far ++ f (get_or model.tables k []))) at (c.in_ok-add_rows.ensures model is so_far (c.loop-table.invariant model is)))

pub returns : goal.returns
returns g c = λ model is.
    let f = flat_map (λ (row : List Cell). row) in
    let full = (c.holds_one.ensures.valid model is).tables in
    let past : length model.tables ≤ c.loop-table.table-index = omega (arith, full, c.all-table-items.ensures.count, c.loop-table-test.false) in
    all_parts _ model _ f [] model.tables c.loop-table.table-index past (c.loop-table.invariant model is)
