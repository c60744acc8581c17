use Rattle.cli_lines.proofs.Prelude.{◌∷◌, [], ◌∙◌, append_assoc}
use Rattle.json.specs.Print.{print_from}
use Rattle.json.specs.Token as json
use Rattle.cli_lines.proofs.json_line.push_close.Goals as goal

pub returns-in_ok-push-in-Line-Some : goal.returns-in_ok-push-in-Line-Some
unfolding print_from
returns-in_ok-push-in-Line-Some c = λ more.
    rw (c.in-Line-Some.is-0, c.in-Line-Some.is-1, c.in_ok-push-in-Line-Some.ensures.items)
    (append_assoc c.push_file.new.line.items (125 ∷ []) _ ∙ c.in_ok-push_file-in-Line-Some.ensures json.end_object more)
