use Rattle.std.proofs.Common.{◌∙◌, sym, arith}
use Rattle.sig_items.proofs.Arms.{core_simple}
use Rattle.sig_items.proofs.types.core.Goals as goal

pub returns-in-Some-clause-reported : goal.returns-in-Some-clause-reported
returns-in-Some-clause-reported c =
    c.leaf.ensures.reported ∙ sym (core_simple c.args.depth c.in_ok-code.code c.in-Some.element c.args.bytes.now c.in_ok-code.tail.now (omega arith) c.in_ok-code.ensures c.in-Some.ensures)
