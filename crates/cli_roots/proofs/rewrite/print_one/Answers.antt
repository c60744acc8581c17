use Rattle.cli_roots.proofs.Prelude.{[], ◌∷◌, map, rules, subst, report_text, Sent}
use Rattle.cli_lines.specs.Shown.{shown}
use Rattle.cli_roots.proofs.rewrite.print_one.Goals as goal

pub returns-clause-sent : goal.returns-clause-sent
returns-clause-sent g c =
    let before = g.W.Write.contents c.args.out.now in
    let lines = map shown c.args.parts.now ∷ [] in
    let asked = rw c.new-printer.ensures.style at (c.line.ensures.asked before [] c.new-printer.ensures.asked) in
    subst (λ v. Sent before (g.W.Write.contents v) c.finish-writer.result.1 (report_text c.args.form lines)) (search rules)
    (c.finish-writer.ensures.sent before (report_text c.args.form lines) asked)
