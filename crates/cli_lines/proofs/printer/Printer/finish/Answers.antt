use Rattle.std.proofs.Common.{[], Result, Ok, Err, refl}
use Rattle.cli_lines.proofs.Prelude.{IsOk, OnOk, ◌↔◌, nothing_sent, same_printed}
use Rattle.cli_lines.proofs.printer.Printer.finish.Goals as goal

pub returns-clause-sent : goal.returns-clause-sent
returns-clause-sent g c = λ start text asked.
    same_printed c.finish_unless-outcome.result c.printed.result start (g.W.Write.contents c.finish_unless-outcome.new.out) text c.printed.ensures.ok
    (c.finish_unless-outcome.ensures.sent start text (rw c.deref.ensures.value (rw (← c.self.view_is) at asked)))

pub returns-clause-nothing : goal.returns-clause-nothing
returns-clause-nothing g c = λ start text asked.
    nothing_sent c.printed.result start (g.W.Write.contents c.finish_unless-outcome.new.out) text (returns-clause-sent g c start [] asked)

-- a result that succeeds if another does
succeeds : {E F : Type 0} (P : Type 0) (first : Result (Unit {0}) E) (last : Result (Unit {0}) F) → IsOk last ↔ IsOk first → OnOk first P → OnOk last P
succeeds P (Ok done) (Ok end) ok has = has
succeeds P (Ok done) (Err failure) ok has = tt
succeeds P (Err error) (Ok end) ok has = let no = ok.0 refl in cc
succeeds P (Err error) (Err failure) ok has = tt

pub returns-clause-complete : goal.returns-clause-complete
returns-clause-complete g c =
    rw (← c.self.view_is)
    (succeeds _ c.finish_unless-outcome.result c.printed.result c.printed.ensures.ok (rw c.deref.ensures.value at c.finish_unless-outcome.ensures.complete))
