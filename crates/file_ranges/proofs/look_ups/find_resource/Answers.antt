use Rattle.file_ranges.proofs.Prelude.{arith, ManifestResource}
use Rattle.file_ranges.proofs.look_ups.find_resource.Goals as goal

pub returns-clause-none : goal.returns-clause-none
returns-clause-none c = λ model shown row there names.
    let count = c.holds_one.ensures.rows model shown ManifestResource in
    let rows = c.count-row-end.ensures.rows in
    let last = there.1 in
    c.loop-row.invariant model shown row there.0 (omega arith) names
