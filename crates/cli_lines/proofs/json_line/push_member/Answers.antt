use Rattle.std.proofs.lemmas.Result.{on_ok_weaker}
use Rattle.cli_lines.proofs.Prelude.{◌++◌, ◌∙◌, value_tokens, shown_file, shown_value}
use Rattle.cli_lines.proofs.JsonLemmas.{tokens_pushed, value_ends}
use Rattle.cli_lines.proofs.json_line.push_member.Goals as goal

pub returns : goal.returns
returns c =
    let value = shown_value c.args.value.now in
    on_ok_weaker c.push_json_value.result (λ is more.
    tokens_pushed (shown_file c.args.file) (value_tokens value) c.push_name.new.line.items c.push_json_value.new.line.items (value_ends value) is more
    ∙ c.in_ok-push_name.ensures (value_tokens value ++ more))
    c.push_json_value.ensures
