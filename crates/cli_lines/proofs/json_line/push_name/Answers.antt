use Rattle.cli_lines.proofs.Prelude.{◌≡◌, ◌∷◌, [], ◌++◌, ◌∙◌, ap, sym, append_assoc, line_feed, named_token}
use Rattle.json.specs.Print.{print, print_from}
use Rattle.json.specs.Token as json
use Rattle.cli_lines.specs.Names.{key_text, name_text}
use Rattle.std.proofs.lemmas.Result.{on_ok_weaker}
use Rattle.cli_lines.proofs.TextLemmas.{appended}
use Rattle.cli_lines.proofs.json_line.push_name.Goals as goal

pub returns-in_ok-push_file-in-Line-Some : goal.returns-in_ok-push_file-in-Line-Some
unfolding print_from
returns-in_ok-push_file-in-Line-Some c =
    let begun = c.push_file.new.line.items in
    let key = key_text (name_text c.args.name) in
    on_ok_weaker c.extend_from_slice.result
    (λ (is : c.extend_from_slice.new.self.items ≡ begun ++ key) more.
    let left = print (more ++ json.end_object ∷ []) in
    rw (c.in-Line-Some.is-0, c.in-Line-Some.is-1, is)
    (append_assoc begun key (left ++ line_feed) ∙ ap (λ ys. begun ++ ys) (sym (append_assoc key left line_feed)) ∙ c.in_ok-push_file-in-Line-Some.ensures (named_token c.args.name) more))
    (appended c.extend_from_slice.result begun c.extend_from_slice.new.self.items c.as_bytes-key.result.now key c.extend_from_slice.ensures.items (c.as_bytes-key.ensures.value ∙ c.key.ensures))
