use Rattle.std.proofs.Common.{◌<◌, ◌≤◌, arith}
use Rattle.sig_recogniser.proofs.Positions.{number_two}
use Rattle.sig_recogniser.proofs.position.middle_number.Goals as goal

pub returns-clause-number : goal.returns-clause-number
returns-clause-number c =
    let low : 0x80 ≤ c.in_ok-first.first = omega arith in
    let high : c.in_ok-first.first < 0xC0 = omega arith in
    rw (c.from-high.ensures, c.from-low.ensures) (number_two c.args.bytes.now c.args.here c.in_ok-first.behind c.in_ok-second.next c.in_ok-first.first c.in_ok-second.second c.in_ok-first.ensures.0 c.in_ok-second.ensures.0 c.in_ok-first.ensures.1 c.in_ok-second.ensures.1 low high)
