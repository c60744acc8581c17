use Rattle.root_writer.proofs.Prelude.{refl, sym, subst, arith, number_bytes, Puts}
use Rattle.root_writer.proofs.HeadingLemmas.{prefix_is_long}
use Rattle.root_writer.proofs.PutsLemmas.{puts_then}
use Rattle.root_writer.proofs.writer.Writer.put_prefix.Goals as goal

pub put_ended-requires : goal.put_ended-requires
put_ended-requires c = record { room = omega (arith, c.requires.room, c.put.ensures.room, c.put-2.ensures.room, c.put_number.ensures.room, prefix_is_long c.args.version.now c.args.streams) }

pub put-requires-3 : goal.put-requires-3
put-requires-3 c = omega (arith, c.requires.room, c.put.ensures.room, c.put-2.ensures.room, c.put_number.ensures.room, c.put_ended.ensures.room, prefix_is_long c.args.version.now c.args.streams)

pub put_number-requires-2-clause-room : goal.put_number-requires-2-clause-room
put_number-requires-2-clause-room c =
    omega (arith, c.requires.room, c.put.ensures.room, c.put-2.ensures.room, c.put_number.ensures.room, c.put_ended.ensures.room, c.put-3.ensures.room, prefix_is_long c.args.version.now c.args.streams)

pub returns : goal.returns
returns c =
    let len = subst (λ len. Puts c.put-2.new.self c.put_number.new.self (number_bytes 4 len)) (sym (c.ended_len.ensures.len c.args.version.now refl)) c.put_number.ensures in
    puts_then (puts_then (puts_then (puts_then (puts_then c.put.ensures c.put-2.ensures) len) c.put_ended.ensures) c.put-3.ensures) c.put_number-2.ensures
