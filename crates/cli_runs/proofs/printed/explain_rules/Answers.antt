use Rattle.cli_runs.proofs.Prelude.{[], rules, subst, report_text, Sent}
use Rattle.cli_runs.proofs.printed.explain_rules.Goals as goal

pub returns : goal.returns
returns g c =
    let before = g.W.Write.contents c.args.out.now in
    let lines = c.print_explanations.ensures.0 in
    let asked = rw c.new-printer.ensures.style at (c.print_explanations.ensures.2.asked before [] c.new-printer.ensures.asked) in
    let sent = subst (λ v. Sent before (g.W.Write.contents v) c.finish-writer.result.1 (report_text c.args.form lines)) (search rules) (c.finish-writer.ensures.sent before _ asked) in
    ((lines, c.print_explanations.ensures.1, sent), c.finish-writer.ensures.failed)
