use Rattle.clim_c.proofs.Prelude.{◌≡◌, ◌≤◌, ◌++◌, length, take, SameFrom}
use Rattle.clim_c.proofs.look_ups.write_rows.Given as goal

-- the rows written so far are the first ones that were found
abbrev pub invariant-loop-row : goal.invariant-loop-row
invariant-loop-row l = record {
  left : l.fn.found.rows ≡ take l.count l.rows ++ l.row-iterator.rows;
  within : l.count ≤ length l.rows;
  same : SameFrom l.fn.rows l.rows l.count;
  long : length l.rows ≡ length l.fn.rows;
}
