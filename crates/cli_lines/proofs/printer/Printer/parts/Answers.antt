use Rattle.cli_lines.proofs.Prelude.{map_more, take_all, shown}
use Rattle.cli_lines.proofs.PrintedLemmas.{adds_more}
use Rattle.cli_lines.proofs.printer.Printer.parts.Goals as goal

pub loop-part-preserved : goal.loop-part-preserved
loop-part-preserved g c =
    rw (map_more shown c.args.parts.now c.loop-part.part-index c.part-item.result c.loop-part-test.true, ← c.part-item.is)
    (adds_more _ _ _ _ _ c.loop-part.invariant c.part.ensures)

pub returns : goal.returns
returns g c = rw (take_all c.loop-part.part-index c.args.parts.now c.loop-part-test.false) at c.loop-part.invariant
