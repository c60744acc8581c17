use Rattle.clim_c.proofs.Prelude.{same_Some}
use Rattle.clim_c.proofs.look_ups.clim_rows_by_key.Goals as goal

pub returns-clause-sound : goal.returns-clause-sound
returns-clause-sound c = λ is_open model is known keyed known_is keyed_is has_key.
    let table = same_Some c.in-Some-Some.table known (c.in-Some-Some.ensures.complete known known_is) in
    let key = same_Some c.in-Some-Some.keyed keyed (c.in-Some-Some.ensures'.complete keyed keyed_is) in
    record {
      all = c.by_key.result.rows;
      ascending = c.by_key.ensures.ascending;
      keyed = (rw (c.in-Some.ensures.sound.0, table, key) at c.by_key.ensures.rows) model is;
      first = c.write_rows.ensures.written;
    }
