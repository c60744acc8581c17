use Rattle.cli_lines.proofs.Prelude.{◌++◌, [], line_from, style, prefix_of_nothing}
use Rattle.std.proofs.lemmas.Result.{MatchResult-from_err}
use Rattle.cli_lines.proofs.printer.end_line.Goals as goal

pub returns-in_err-push_end : goal.returns-in_err-push_end
returns-in_err-push_end g c = λ file.
    let known = g.W.Write.contents c.args.out.now in
    let text = c.args.waiting.now.items ++ line_from (style c.args.form file) c.args.at [] in
    MatchResult-from_err c.from_residual.result _ _ c.from_residual.ensures.0 (λ error. prefix_of_nothing known text)

pub returns : goal.returns
returns g c = λ file. rw (c.in_ok-push_end.ensures file) at c.send_full.ensures
