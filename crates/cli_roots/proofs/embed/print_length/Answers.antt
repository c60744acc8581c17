use Rattle.cli_roots.proofs.Prelude.{◌≡◌, ◌-◌, arith, length, embed_line}
use Rattle.cli_roots.proofs.embed.print_length.Goals as goal

pub returns-clause-sent : goal.returns-clause-sent
unfolding embed_line
returns-clause-sent g c =
    let range = c.root_range-range.result in
    let size : range.«end» - range.start ≡ length c.args.plan.now.root = omega (arith, c.root_range-range.ensures.end) in
    (range.start, c.root_range-range.ensures.bytes, rw (← c.len.ensures.value, ← size) c.print_one.ensures.sent)
