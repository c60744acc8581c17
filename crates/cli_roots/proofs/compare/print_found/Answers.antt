use Rattle.cli_roots.proofs.Prelude.{[], rules, subst, report_text, Sent, compared_lines}
use Rattle.cli_roots.proofs.compare.print_found.Goals as goal

pub returns-in-Lines-clause-printed : goal.returns-in-Lines-clause-printed
returns-in-Lines-clause-printed g c =
    λ model another is also.
    let before = g.W.Write.contents c.args.out.now in
    let lines = compared_lines model another c.args.found.now in
    let printed = c.print_differences.ensures model another is also in
    let kept = printed.same.borrow in
    let asked = rw c.new-printer.ensures.style at (printed.asked before [] c.new-printer.ensures.asked) in
    let text = report_text c.in-Lines.form lines in
    rw c.in-Lines.is (subst (λ v. Sent before (g.W.Write.contents v) c.finish-writer.result.1 text) (search (rules, kept)) (c.finish-writer.ensures.sent before text asked))
