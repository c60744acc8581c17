use Rattle.clim_c.proofs.Prelude.{◌<◌, ◌+◌, length, ◌∙◌, arith, length-set, ReportsCell}
use Rattle.clim_c.proofs.Written.{one_more, tail_stays}
use Rattle.clim_c.proofs.cells.write_cells.Goals as goal

pub loop-k-preserved : goal.loop-k-preserved
loop-k-preserved c =
    let root = c.args.seen.now in
    let cells = c.loop-k.cells in
    let k = c.loop-k.k in
    let invariant = c.loop-k.invariant in
    let value = c.cell_of_kind.result in
    let within : k < length cells = omega (arith, c.loop-k-test.true, c.requires.there.4, invariant.long) in
    record {
      shown = λ model is. one_more (λ j reported. ReportsCell root model c.args.table (c.args.first + j) c.args.column reported) cells k c.reported.result
          within (value, c.reported.ensures, c.cell_of_kind.ensures.cell model is, c.cell_of_kind.ensures.blob) (invariant.shown model is);
      same = tail_stays c.args.cells.now cells k c.reported.result invariant.same;
      long = length-set cells k c.reported.result ∙ invariant.long;
    }

pub returns : goal.returns
returns c =
    let past = c.loop-k-test.false in
    let invariant = c.loop-k.invariant in
    (λ model is j d low. invariant.shown model is j d (omega (arith, low, past)), λ j d after. invariant.same j d (omega (arith, after, past)))
