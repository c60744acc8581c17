use Rattle.std.proofs.Common.{◌/◌, ◌^◌}
use Rattle.table_schema.proofs.CodedLemmas.{one_name, is_named, tag_is}
use Rattle.table_schema.proofs.coded_index.split.Goals as goal

pub returns-clause-sound : goal.returns-clause-sound
returns-clause-sound c =
    is_named c.args.coded c.args.number c.tag_bits-bits.result c.in_ok-table.table c.tag_bits-bits.ensures.value c.ranges.number.fits c.in_ok-table.ensures.sound

pub returns-clause-complete : goal.returns-clause-complete
returns-clause-complete c = λ table row named.
    let here = is_named c.args.coded c.args.number c.tag_bits-bits.result c.in_ok-table.table c.tag_bits-bits.ensures.value c.ranges.number.fits c.in_ok-table.ensures.sound in
    let same = one_name c.args.coded c.args.number c.in_ok-table.table table (c.args.number / 2 ^ c.tag_bits-bits.result) row here named in
    cc

pub returns-in_err-table-clause-complete : goal.returns-in_err-table-clause-complete
returns-in_err-table-clause-complete c = λ table row named.
    absurd (c.in_err-table.ensures.none table (tag_is c.args.coded c.args.number c.tag_bits-bits.result table row c.tag_bits-bits.ensures.value c.ranges.number.fits named))
