use Rattle.cell_numbering.proofs.Prelude.{◌≡◌, ℕ, ◌+◌, ◌-◌, ◌<◌, ◌≤◌, List, [], ◌++◌, length, get_or, take, subst, arith, flat_map, Cell, rows_of, AreUsesIn}
use Rattle.cell_numbering.proofs.UseLemmas.{next_part, all_parts, no_cells_yet}
use Rattle.cell_numbering.proofs.heap_uses.add_rows.Goals as goal

pub loop-row-init : goal.loop-row-init
loop-row-init g c = λ model is cells are. no_cells_yet _ model _ cells are

pub loop-row-preserved : goal.loop-row-preserved
loop-row-preserved g c = λ model is cells are.
    let rows = rows_of model c.args.table in
    let i = c.loop-row.row in
    let so_far = cells ++ flat_map (λ (row : List Cell). row) (take i rows) in
    let held = c.holds_one.ensures.rows model is c.args.table in
    let below : i < length rows = omega (arith, c.count-count.ensures.rows) in
    let back : i + 1 - 1 ≡ i = omega arith in
    next_part _ model _ (λ (row : List Cell). row) cells rows i [] below
    (subst (λ (k : ℕ). AreUsesIn (g.S.ReadCells.heap_index c.args.source.now) model c.add_row.new.uses (so_far ++ get_or rows k [])) back (c.in_ok-add_row.ensures model is so_far (c.loop-row.invariant model is cells are)))

pub returns : goal.returns
returns g c = λ model is cells are.
    let rows = rows_of model c.args.table in
    let held = c.holds_one.ensures.rows model is c.args.table in
    let past : length rows ≤ c.loop-row.row = omega (arith, c.count-count.ensures.rows) in
    all_parts _ model _ (λ (row : List Cell). row) cells rows c.loop-row.row past (c.loop-row.invariant model is cells are)
