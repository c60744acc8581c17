use Rattle.embedding.proofs.Prelude.{◌≡◌, ◌+◌, length, replicate, ap, arith, part, headers_end}
use Rattle.embedding.proofs.Room.{zeros_at}
use Rattle.embedding.proofs.slots.has_room.Goals as goal

pub returns : goal.returns
returns c =
    let file = c.args.headers.now in
    let first = c.headers_end-start.result in
    let start : first ≡ headers_end file = c.headers_end-start.ensures.offset in
    let long : length c.file-file.result.now ≡ length file = ap length c.file-file.ensures.bytes in
    let zeros : part file first 40 ≡ replicate 40 0 =
    rw c.file-file.ensures.bytes at (zeros_at c.file-file.result.now first (first + 40) 40 (omega arith) (omega arith) (c.are_zeros.ensures.0 c.if-not-are_zeros.false)) in (
      λ yes. record {
        count = omega (arith, c.section_count.ensures.value);
        room = omega (arith, start, c.field.ensures);
        within = omega (arith, start, long);
        zeros = rw start at zeros;
        cli_header = omega (arith, start);
        sections = (rw start at c.are_after.ensures).0 yes;
      },
      λ room. (rw start at c.are_after.ensures).1 room.sections,
    )
