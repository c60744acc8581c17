use Rattle.cli_lines.proofs.Prelude.{◌++◌, ◌∙◌, ap, refl, sym, row_values, json_from, shown_file}
use Rattle.cli_lines.proofs.JsonLemmas.{row_tokens_are, tokens_are, tokens_pushed}
use Rattle.cli_lines.proofs.json_line.push_json_part.Goals as goal

pub returns-in_ok-push_row-in-RowNumber : goal.returns-in_ok-push_row-in-RowNumber
returns-in_ok-push_row-in-RowNumber c = λ more.
    let row = c.in-RowNumber.row in
    let file = shown_file c.args.file in
    tokens_pushed file (row_values row) c.push_name-in-RowNumber.new.line.items c.push_row.new.line.items refl c.in_ok-push_row-in-RowNumber.ensures more
    ∙ c.in_ok-push_name-in-RowNumber.ensures (row_values row ++ more)
    ∙ ap (λ tokens. c.args.line.now.items ++ json_from file c.args.at (tokens ++ more)) (sym (row_tokens_are c.args.part.now row c.in-RowNumber.is))

pub returns-in_ok-push_units_member-in-Units : goal.returns-in_ok-push_units_member-in-Units
returns-in_ok-push_units_member-in-Units c = rw (c.in-Units.is, ← c.units.ensures) c.in_ok-push_units_member-in-Units.ensures

pub returns-in_ok-push_member-in-Field : goal.returns-in_ok-push_member-in-Field
returns-in_ok-push_member-in-Field c = λ more.
    c.in_ok-push_member-in-Field.ensures more
    ∙ ap (λ tokens. c.args.line.now.items ++ json_from (shown_file c.args.file) c.args.at (tokens ++ more)) (sym (tokens_are c.args.part.now c.in-Field.name c.in-Field.value c.in-Field.is))
