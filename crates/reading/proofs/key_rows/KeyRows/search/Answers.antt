use Rattle.std.proofs.Common.{length, arith}
use Rattle.reading.proofs.KeyLemmas.{with_run}
use Rattle.reading.proofs.key_rows.KeyRows.search.Goals as goal

pub invariant_of-result : goal.invariant_of-result
invariant_of-result g c =
    let within = c.find_key-found.ensures.within in
    record {
      first = within.0;
      within = within.1;
      last = within.2;
      run = λ run row low high. (c.find_key-found.ensures.rows row (omega (arith, within.0)) (omega (arith, within.2))).1 (low, high);
    }

pub returns-clause-rows : goal.returns-clause-rows
returns-clause-rows g c =
    let within = c.find_key-found.ensures.within in
    let numbers = g.K.KeyNumbers.numbers c.args.keys in
    with_run numbers c.args.number (length numbers) c.find_key-found.result.first c.find_key-found.result.past
    within.0 within.1 within.2 (λ row first last is. (c.find_key-found.ensures.rows row first last).0 is)
