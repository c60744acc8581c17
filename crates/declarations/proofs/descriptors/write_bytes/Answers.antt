use Rattle.declarations.proofs.Prelude.{arith, refl, all_bytes, one_byte_more, other_bytes_passed, writes_nothing}
use Rattle.table_schema.specs.Tokens.{hexadecimal}
use Rattle.declarations.proofs.descriptors.write_bytes.Goals as goal

pub loop-byte-init : goal.loop-byte-init
loop-byte-init g c = writes_nothing g.W.Write.write_str_gives c.args.out.now

pub loop-byte-preserved : goal.loop-byte-preserved
loop-byte-preserved g c =
    one_byte_more g.W.Write.write_str_gives (hexadecimal 2) c.args.blob.now c.loop-byte.byte-index c.args.out.now c.loop-byte.out c.loop-byte.invariant c.write_byte.new.out c.loop-byte-test.true
    c.in_ok-write_byte.ensures

-- the other bytes are passed over
pub returns-then-is_reached : goal.returns-then-is_reached
returns-then-is_reached g c =
    other_bytes_passed g.W.Write.write_str_gives (hexadecimal 2) c.args.blob.now c.loop-byte.byte-index c.args.out.now c.loop-byte.out c.loop-byte.invariant (c.if-is_reached.ensures refl)

pub returns : goal.returns
returns g c =
    all_bytes g.W.Write.write_str_gives (hexadecimal 2) c.args.blob.now c.loop-byte.byte-index c.args.out.now c.loop-byte.out c.loop-byte.invariant (omega (arith, c.loop-byte-test.false))
