use Rattle.std.proofs.Common.{Some, ap, arith}
use Rattle.table_schema.proofs.CodedLemmas.{one_tag, shifted}
use Rattle.table_schema.proofs.coded_index.join.Goals as goal

pub returns-clause-sound : goal.returns-clause-sound
returns-clause-sound c =
    let whole = shifted c.args.coded c.tag_bits.result c.args.row c.tag_bits.ensures.value c.tag_bits.ensures.limit in
    let first = c.in_ok-first.ensures.1 in
    record { tag = c.in_ok-tag.tag; listed = c.in_ok-tag.ensures.sound; equal = omega arith }

pub returns-clause-complete : goal.returns-clause-complete
returns-clause-complete c = λ number named small.
    let same = one_tag c.args.coded c.in_ok-tag.tag named.tag c.args.table c.in_ok-tag.ensures.sound named.listed in
    let whole = shifted c.args.coded c.tag_bits.result c.args.row c.tag_bits.ensures.value c.tag_bits.ensures.limit in
    let first = c.in_ok-first.ensures.1 in
    let equal = named.equal in
    ap Some (omega arith)
