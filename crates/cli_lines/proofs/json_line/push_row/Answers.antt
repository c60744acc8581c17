use Rattle.std.proofs.lemmas.Result.{on_ok_weaker}
use Rattle.cli_lines.proofs.Prelude.{◌≡◌, ◌∷◌, [], ◌++◌, ◌∙◌, ap, append_assoc, decimal, token_text}
use Rattle.cli_lines.proofs.JsonLemmas.{row_prints}
use Rattle.cli_lines.proofs.json_line.push_row.Goals as goal

pub returns : goal.returns
returns c =
    let row = c.args.row in
    on_ok_weaker c.push_digit_string.result
    (λ (is : c.push_digit_string.new.line.items ≡ c.extend_from_slice-2.new.self.items ++ 34 ∷ (token_text row ++ 34 ∷ [])).
    rw (is, c.in_ok-extend_from_slice-2.ensures.items, c.in_ok-push_decimal.ensures, c.in_ok-extend_from_slice.ensures.items, c.as_bytes.ensures.value, c.keys_of.ensures.row, ← row_prints row) (simp append_assoc))
    c.push_digit_string.ensures
