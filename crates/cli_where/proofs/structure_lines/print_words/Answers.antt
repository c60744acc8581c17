use Rattle.cli_where.proofs.Prelude.{◌≡◌, ◌++◌, rules, name_text, line_with}
use Rattle.cli_where.proofs.structure_lines.print_words.Goals as goal

pub returns-in-Ok : goal.returns-in-Ok
unfolding line_with
returns-in-Ok g c = let said : c.deref.result.now ≡ c.args.word.now ++ name_text c.args.name = search rules in rw (← said) c.line.ensures

pub returns-in-Err : goal.returns-in-Err
returns-in-Err g c = c.fail.ensures.lines _
