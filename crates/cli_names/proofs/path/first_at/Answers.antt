use Rattle.cli_names.proofs.Prelude.{◌<◌, arith, HasPath}
use borrow.Author.Count.{below_more}
use Rattle.cli_names.proofs.path.first_at.Goals as goal

pub returns-then-has_parts-clause-sound : goal.returns-then-has_parts-clause-sound
returns-then-has_parts-clause-sound c = λ model is. record {
  there = (c.loop-row.auto.row, omega (arith, c.count-row-end.ensures.model model is, c.loop-row-test.true));
  later = c.loop-row.auto.row;
  has = (rw (c.as_slice.ensures.value, c.in_ok-parts.ensures) at (c.has_parts.ensures model is)).0 c.if-has_parts.true;
  first = c.loop-row.invariant model is;
}

pub loop-row-preserved : goal.loop-row-preserved
loop-row-preserved c = λ model is. below_more (λ row. 0 < row → ¬ HasPath model c.args.path.now row) c.loop-row.row (c.loop-row.invariant model is) (λ from has.
    let yes = (rw (c.as_slice.ensures.value, c.in_ok-parts.ensures) at (c.has_parts.ensures model is)).1 has in
    let no = c.if-has_parts.false in
    absurd cc)
