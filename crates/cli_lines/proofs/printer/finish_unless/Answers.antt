use Rattle.cli_sending.proofs.SentLemmas.{tail_printed}
use Rattle.cli_lines.proofs.printer.finish_unless.Goals as goal

pub returns-in-Some-clause-sent : goal.returns-in-Some-clause-sent
returns-in-Some-clause-sent g c = λ start text asked. rw c.in-Some.is at asked

pub returns-in-None-clause-sent : goal.returns-in-None-clause-sent
returns-in-None-clause-sent g c = λ start text asked.
    tail_printed c.finish.result start (g.W.Write.contents c.args.out.now) (g.W.Write.contents c.finish.new.out) text c.args.waiting.now
    (rw c.in-None.is at asked) c.finish.ensures
