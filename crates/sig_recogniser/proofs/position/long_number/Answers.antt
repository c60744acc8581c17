use Rattle.sig_recogniser.proofs.Prelude.{◌+◌, ◌<◌, ◌^◌, arith, offset_of}
use Rattle.sig_recogniser.proofs.Positions.{count_fits, number_found, number_none, same_bad}
use Rattle.sig_recogniser.proofs.position.long_number.Goals as goal

pub returns-in_err-number-clause-number : goal.returns-in_err-number-clause-number
returns-in_err-number-clause-number c =
    rw c.from_residual.ensures (number_none c.args.bytes.now c.bytes_from.result.now c.args.here c.bytes_from.ensures c.in_err-number.ensures.value)

pub overflow_cast-count : goal.overflow_cast-count
overflow_cast-count c =
    let fits : offset_of c.args.here < 2 ^ 32 = omega arith in
    let all : offset_of c.args.here + c.in_ok-number.count < 2 ^ 32 = count_fits c.args.bytes.now c.bytes_from.result.now c.args.here c.in_ok-number.count c.bytes_from.ensures c.in_ok-number.ensures.sound.0 c.requires fits in
    omega arith

pub onward-next-requires : goal.onward-next-requires
onward-next-requires c =
    let fits : offset_of c.args.here < 2 ^ 32 = omega arith in
    count_fits c.args.bytes.now c.bytes_from.result.now c.args.here c.in_ok-number.count c.bytes_from.ensures c.in_ok-number.ensures.sound.0 c.requires fits

pub returns-clause-number : goal.returns-clause-number
returns-clause-number c =
    number_found c.args.bytes.now c.bytes_from.result.now c.args.here c.onward-next.result c.in_ok-number.number c.in_ok-number.count c.bytes_from.ensures c.onward-next.ensures.offset (same_bad c.args.here c.onward-next.result c.onward-next.ensures.bad) c.in_ok-number.ensures.value
