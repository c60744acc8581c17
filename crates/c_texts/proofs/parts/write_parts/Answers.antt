use Rattle.c_texts.proofs.Prelude.{◌-◌, ◌^◌, List, ℕ, take, subst, arith, HasText, joined}
use Rattle.c_texts.proofs.Buffers.{joined_more, none_written}
use Rattle.c_texts.proofs.parts.write_parts.Goals as goal

pub loop-part-init : goal.loop-part-init
loop-part-init c = none_written (2 ^ 64 - 1) c.args.buffer.now

pub loop-part-preserved : goal.loop-part-preserved
loop-part-preserved c =
    let k = c.loop-part.part-index in
    let parts = c.args.parts.now in
    let P : List ℕ → Type 0 = λ text. HasText (2 ^ 64 - 1) c.args.buffer.now text c.append-len.new.buffer c.append-len.result in
    subst P (joined_more parts k _ c.loop-part-test.true)
    (c.append-len.ensures c.args.buffer.now (joined (take k parts)) (omega arith) c.loop-part.invariant)
