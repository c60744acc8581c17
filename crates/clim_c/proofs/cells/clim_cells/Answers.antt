use Rattle.clim_c.proofs.Prelude.{same_Some}
use Rattle.clim_c.proofs.cells.clim_cells.Goals as goal

pub returns-clause-shown : goal.returns-clause-shown
returns-clause-shown c = λ model is known known_is j d low.
    let table = same_Some c.in-Some-Some.table known (c.in-Some-Some.ensures.complete known known_is) in
    (rw (c.in-Some-Some.ensures'.sound.0, table) at c.write_column.ensures.0) model is j d low
