use Rattle.cell_numbering.proofs.Prelude.{◌≤◌, ◌*◌, ap, length, get_or, arith, Module}
use Rattle.root_writer.proofs.TableLemmas.{cells_low}
use Rattle.cell_numbering.proofs.numbers.count_numbers.Given.{Over}
use Rattle.cell_numbering.proofs.numbers.count_numbers.Goals as goal

few_here : (g : Over) (c : goal.After-count g) → length c.columns.result.now * c.count.result ≤ 150994935
few_here g c =
    let table = get_or c.all-table-items.result.now c.loop-table.table-index Module in
    cells_low (length c.columns.result.now) c.count.result (omega (arith, ap length c.columns.ensures, c.columns_stand.ensures.few table))
    (omega (arith, c.count.ensures.limit))

pub overflow_mul-count : goal.overflow_mul-count
overflow_mul-count g c = omega (arith, few_here g c)

pub overflow_add-count : goal.overflow_add-count
overflow_add-count g c = omega (arith, few_here g c, c.loop-table.invariant, c.loop-table.auto.table-index-end, c.all-table-items.ensures.count)

pub loop-table-preserved : goal.loop-table-preserved
loop-table-preserved g c = omega (arith, few_here g c, c.loop-table.invariant)
