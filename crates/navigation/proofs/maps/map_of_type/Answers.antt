use Rattle.std.proofs.Common.{arith}
use Rattle.navigation.proofs.maps.map_of_type.Goals as goal

pub returns-clause-none : goal.returns-clause-none
returns-clause-none g c = λ model shown map is.
    let count = c.holds_one.ensures.rows model shown c.args.table in
    let rows = c.count-map-end.ensures.rows in
    let last = is.0.1 in
    c.loop-map.invariant model shown map (omega arith) is
