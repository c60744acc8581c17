use Rattle.owned_model.proofs.Prelude.{◌<◌, ℕ, length, Option, ◌∙◌, arith, length-set, cell_in, CellRef, IsShown}
use Rattle.owned_model.proofs.RefRowLemmas.{cells_few, one_more}
use Rattle.owned_model.proofs.row_values.values_of.Goals as goal

pub loop-cell_index-preserved : goal.loop-cell_index-preserved
loop-cell_index-preserved c =
    let few = cells_few c.args.table in
    let within : c.loop-cell_index.cell_index < length c.loop-cell_index.values =
    omega (arith, few, c.cell_count-cell_index-end.ensures, c.loop-cell_index-test.true, c.loop-cell_index.invariant.long) in
    record {
      long = length-set c.loop-cell_index.values c.loop-cell_index.cell_index c.cell.result ∙ c.loop-cell_index.invariant.long;
      shown = λ model is.
          let P : ℕ → Option CellRef → Type 0 = λ k value. IsShown value c.args.table k (cell_in model c.args.table c.args.row k) in
          one_more P c.loop-cell_index.values c.loop-cell_index.cell_index c.cell.result within (c.loop-cell_index.invariant.shown model is) (c.cell.ensures.cell model is);
    }
