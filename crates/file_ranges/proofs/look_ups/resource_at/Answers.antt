use Rattle.file_ranges.proofs.Prelude.{◌≡◌, ◌≤◌, ◌<◌, true, ⊎_elim, arith}
use Rattle.std.proofs.lemmas.Bool.{cases_lt}
use Rattle.file_ranges.proofs.look_ups.resource_at.Goals as goal

pub loop-row-preserved : goal.loop-row-preserved
loop-row-preserved c = λ file header model of is earlier first before has.
    let row = c.loop-row.row in
    ⊎_elim (λ (lt : earlier < row). c.loop-row.invariant file header model of is earlier first lt has)
    (λ (le : row ≤ earlier).
    let same : earlier ≡ row = omega arith in
    let found : c.contains.result ≡ true = (c.contains.ensures file header model of is).1 (rw same at has) in
    let none = c.if-contains.false in
    absurd cc)
    (cases_lt earlier row)

pub returns-then-contains-clause-sound : goal.returns-then-contains-clause-sound
returns-then-contains-clause-sound c = λ file header model of is.
    let count = c.count-row-end.ensures.model model is in
    let below = c.loop-row-test.true in
    record {
      there = (omega arith, omega arith);
      has = (c.contains.ensures file header model of is).0 c.if-contains.true;
      first = c.loop-row.invariant file header model of is;
    }

pub returns-clause-none : goal.returns-clause-none
returns-clause-none c = λ file header model of is row there.
    let count = c.count-row-end.ensures.model model is in
    let past = c.loop-row-test.false in
    let last = there.1 in
    c.loop-row.invariant file header model of is row there.0 (omega arith)
