use Rattle.clim_c.proofs.Prelude.{same_Some}
use Rattle.clim_c.proofs.cells.clim_cell_at.Goals as goal

pub returns-clause-shown : goal.returns-clause-shown
returns-clause-shown c = λ model is known known_is.
    let table = same_Some c.in-Some-Some.table known (c.in-Some-Some.ensures.complete known known_is) in
    let seen = c.in-Some-Some.ensures'.sound.0 in
    (c.cell.result, c.reported.ensures, (rw (seen, table) at c.cell.ensures.cell) model is, rw (seen, table) at c.cell.ensures.blob)
