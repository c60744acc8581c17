use Rattle.checks.proofs.AsciiTexts.{sure_found}
use Rattle.checks.proofs.texts.find_sure_end.Goals as goal

pub returns : goal.returns
returns c =
    rw c.unwrap_or.ensures (sure_found c.args.heap.now c.memrchr.result c.if-not-is_ascii.ensures.cases c.memrchr.ensures)
