use Rattle.full_names.proofs.Prelude.{arith, refl, quoted_byte}
use Rattle.full_names.proofs.TextLemmas.{all_bytes, one_byte_more, other_bytes_passed, writes_nothing}
use Rattle.full_names.proofs.quoted.write_bytes.Goals as goal

pub loop-byte-init : goal.loop-byte-init
loop-byte-init g c = writes_nothing g.W.Write.write_str_gives c.args.out.now

pub loop-byte-preserved : goal.loop-byte-preserved
loop-byte-preserved g c =
    one_byte_more g.W.Write.write_str_gives quoted_byte c.args.bytes.now c.loop-byte.byte-index c.args.out.now c.loop-byte.out c.loop-byte.invariant c.write_byte.new.out c.loop-byte-test.true
    c.in_ok-write_byte.ensures

-- the other bytes are passed over
pub returns-then-is_reached : goal.returns-then-is_reached
returns-then-is_reached g c =
    other_bytes_passed g.W.Write.write_str_gives quoted_byte c.args.bytes.now c.loop-byte.byte-index c.args.out.now c.loop-byte.out c.loop-byte.invariant (c.if-is_reached.ensures refl)

pub returns : goal.returns
returns g c =
    all_bytes g.W.Write.write_str_gives quoted_byte c.args.bytes.now c.loop-byte.byte-index c.args.out.now c.loop-byte.out c.loop-byte.invariant (omega (arith, c.loop-byte-test.false))
