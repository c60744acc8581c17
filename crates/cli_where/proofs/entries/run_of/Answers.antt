use Rattle.cli_where.proofs.Prelude.{arith, inl, inr, heap_of}
use Rattle.cli_where.proofs.EntryLemmas.{outside, run_is}
use Rattle.cli_where.proofs.entries.run_of.Goals as goal

pub returns-in_err-byte : goal.returns-in_err-byte
returns-in_err-byte c = rw c.from_residual.ensures (outside (heap_of c.args.texts) c.args.offset (inl (omega (arith, c.in_err-byte.ensures))))

pub returns-then-byte-texts : goal.returns-then-byte-texts
returns-then-byte-texts c = outside (heap_of c.args.texts) c.args.offset (inr (omega (arith, c.in_ok-byte.ensures, c.if-byte-texts.true)))

pub returns : goal.returns
returns c = run_is (heap_of c.args.texts) c.args.offset c.in_ok-byte.byte (omega (arith, c.in_ok-byte.ensures)) c.run_at.result c.run_at.ensures
