use Rattle.std.proofs.Common.{◌<◌, ◌≤◌, arith}
use Rattle.sig_recogniser.proofs.Positions.{number_four}
use Rattle.sig_recogniser.proofs.position.wide_number.Goals as goal

pub returns-clause-number : goal.returns-clause-number
returns-clause-number c =
    let low : 0xC0 ≤ c.in_ok-first.first = omega arith in
    let high : c.in_ok-first.first < 0xE0 = omega arith in
    rw c.number_of_four.ensures.value (number_four c.args.bytes.now c.args.here c.in_ok-first.after_first c.in_ok-second.after_second c.in_ok-third.after_third c.in_ok-fourth.next c.in_ok-first.first c.in_ok-second.second c.in_ok-third.third c.in_ok-fourth.fourth c.in_ok-first.ensures.0 c.in_ok-second.ensures.0 c.in_ok-third.ensures.0 c.in_ok-fourth.ensures.0 c.in_ok-first.ensures.1 c.in_ok-second.ensures.1 c.in_ok-third.ensures.1 c.in_ok-fourth.ensures.1 low high)
