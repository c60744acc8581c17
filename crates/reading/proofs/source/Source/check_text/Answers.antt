use Rattle.reading.proofs.source.Source.check_text.Goals as goal

pub returns-in-Ok : goal.returns-in-Ok
returns-in-Ok c = λ offset. rw c.strings.ensures at (c.in-Ok.ensures.reports offset)

pub returns-in-Err : goal.returns-in-Err
returns-in-Err c = λ offset. rw c.code.ensures (rw c.strings.ensures at (c.in-Err.ensures.reports offset))
