use Rattle.clim_c.proofs.Prelude.{◌<◌, length, ◌∙◌, arith, length-set}
use Rattle.clim_c.proofs.Written.{tail_stays, next_left, all_left, room_left}
use Rattle.clim_c.proofs.look_ups.write_rows.Goals as goal

pub loop-row-preserved : goal.loop-row-preserved
loop-row-preserved c =
    let rows = c.loop-row.rows in
    let k = c.loop-row.count in
    let row = c.in-Some.row in
    let invariant = c.loop-row.invariant in
    let within : k < length rows = omega (arith, invariant.within, c.if-count-rows.false) in
    record {
      left = next_left c.args.found.rows rows c.loop-row.row-iterator.rows c.next.new.self.rows k row invariant.left c.in-Some.ensures.steps.0 within;
      within = let long = length-set rows k row in omega (arith, long, within);
      same = tail_stays c.args.rows.now rows k row invariant.same;
      long = length-set rows k row ∙ invariant.long;
    }

pub returns-in-None-clause-written : goal.returns-in-None-clause-written
returns-in-None-clause-written c =
    let invariant = c.loop-row.invariant in
    all_left c.args.found.rows c.loop-row.rows c.loop-row.row-iterator.rows c.loop-row.count (length c.args.rows.now)
    invariant.left c.in-None.ensures.steps.0.0 invariant.within invariant.long

pub returns-then-count-rows-clause-written : goal.returns-then-count-rows-clause-written
returns-then-count-rows-clause-written c =
    let invariant = c.loop-row.invariant in
    room_left c.args.found.rows c.loop-row.rows c.loop-row.row-iterator.rows c.loop-row.count (length c.args.rows.now)
    invariant.left c.if-count-rows.true invariant.long
