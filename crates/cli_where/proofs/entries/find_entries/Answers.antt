use Rattle.cli_where.proofs.Prelude.{◌≡◌, ◌∙◌, ◌+◌, [], ap, arith, get_or, length, take, flat_map_more, take_all, take_more, Module, all_cells, cell_of, row_cells, table_cells, map-range_with_len_more, numbered_more}
use Rattle.table_schema.specs.Columns.{columns_of}
use Rattle.schema.specs.Sizes.{Sizes, count_of}
use Rattle.cli_where.proofs.EntryLemmas.{finds_all, finds_more}
use Rattle.cli_where.proofs.entries.find_entries.Goals as goal

pub loop-column-preserved : goal.loop-column-preserved
loop-column-preserved c =
    let column = c.loop-column.column in
    let table = get_or c.all-tables.result.now c.loop-of.of-index Module in
    rw (map-range_with_len_more (cell_of table (c.loop-before.before + 1)) 0 column column (omega arith)) (finds_more c.loop-column.invariant c.find_named-left.ensures)

pub loop-before-preserved : goal.loop-before-preserved
loop-before-preserved c =
    let table = get_or c.all-tables.result.now c.loop-of.of-index Module in
    let all : length (columns_of table) ≡ c.loop-column.column = omega (arith, c.loop-column-test.false, ap length c.columns-column-end.ensures) in
    rw (← numbered_more (row_cells table) 1 c.loop-before.before (c.loop-before.before + 1) (omega arith)) (finds_more c.loop-before.invariant (rw (← all) at c.loop-column.invariant))

pub loop-of-preserved : goal.loop-of-preserved
loop-of-preserved c =
    let i = c.loop-of.of-index in
    let tables = c.all-tables.result.now in
    let table = get_or tables i Module in
    let rows = c.count-before-end.ensures.value ∙ ap (λ (sizes : Sizes). count_of sizes table) c.layout.ensures in
    let all : count_of c.args.rows.now.sizes table ≡ c.loop-before.before = omega (arith, c.loop-before-test.false, rows) in
    rw (take_more tables i Module c.loop-of-test.true, ← flat_map_more (table_cells c.args.rows.now.sizes) [] (take i tables) table) (finds_more c.loop-of.invariant (rw (← all) at c.loop-before.invariant))

pub returns : goal.returns
unfolding all_cells
returns c =
    let all = take_all c.loop-of.of-index c.all-tables.result.now c.loop-of-test.false in
    finds_all c.requires.offset (rw (all ∙ c.all-tables.ensures.value) at c.loop-of.invariant)
