use Rattle.cli_lines.proofs.Prelude.{◌≡◌, ◌++◌, ◌∙◌, ap, false, true, rules, has_unpaired_surrogate, ◌∷◌, items_tokens, json_from, shown_file}
use Rattle.json.specs.Token as json
use Rattle.cli_lines.proofs.JsonLemmas.{array_ends, text_tokens, tokens_pushed, unit_tokens}
use Rattle.std.proofs.lemmas.Result.{on_ok_weaker}
use Rattle.cli_lines.proofs.json_units.push_units_member.Goals as goal

pub returns-in-Ok : goal.returns-in-Ok
returns-in-Ok c =
    on_ok_weaker c.push_member.result (λ is more.
    let paired : has_unpaired_surrogate c.args.units ≡ false = search rules in
    is more ∙ ap (λ tokens. c.args.line.now.items ++ json_from (shown_file c.args.file) c.args.at (tokens ++ more)) (text_tokens c.args.units _ paired (search rules)))
    c.push_member.ensures

pub returns : goal.returns
returns c =
    on_ok_weaker c.push_array.result (λ is more.
    let units = c.args.units in
    let unpaired : has_unpaired_surrogate units ≡ true = search rules in
    let same : c.deref-in-Err.result.now ≡ units = search rules in
    tokens_pushed (shown_file c.args.file) (json.begin_array ∷ items_tokens units) c.push_name.new.line.items c.push_array.new.line.items (array_ends units) (rw same at is) more
    ∙ c.in_ok-push_name-in-Err.ensures (json.begin_array ∷ items_tokens units ++ more)
    ∙ ap (λ tokens. c.args.line.now.items ++ json_from (shown_file c.args.file) c.args.at (tokens ++ more)) (unit_tokens units unpaired))
    c.push_array.ensures
