use Rattle.cli_outline.proofs.Prelude.{◌≡◌, ◌∙◌, ◌∷◌, [], inl, inr, refl, sym, string_bytes, Text, Letters, JsonLines, has_directive}
use Rattle.cli_outline.proofs.ChosenLemmas.{row_chosen, row_passed}
use Rattle.cli_outline.proofs.DeclarationLemmas.{line_printed, same_text}
use Rattle.cli_outline.proofs.PrintedLemmas.{row_hidden, row_printed, rows_failed}
use Rattle.cli_outline.proofs.line.print_row.Goals as goal

pub returns-then-not-is_chosen : goal.returns-then-not-is_chosen
returns-then-not-is_chosen g c = λ model is. row_passed (rw c.if-not-is_chosen.true at (c.is_chosen.ensures model is))

pub returns-then-not-shows : goal.returns-then-not-shows
returns-then-not-shows g c = λ model is.
    row_chosen (rw c.if-not-is_chosen.false at (c.is_chosen.ensures model is))
    (row_hidden c.args.source.now.options model c.args.out.now c.args.token (sym (c.shows.ensures model is) ∙ c.if-not-shows.true))

pub returns-in-Text : goal.returns-in-Text
returns-in-Text g c = λ model is.
    let options = c.args.source.now.options in
    let of = c.args.token in
    let class = c.type_of_member-class.result in
    let text = string_bytes c.declare_row.new.declared.text in
    row_chosen (rw c.if-not-is_chosen.false at (c.is_chosen.ensures model is))
    (row_printed options model c.args.out.now c.print_text.new.out of _ (sym (c.shows.ensures model is) ∙ c.if-not-shows.false) (text, c.in-Ok.ensures model is, class, c.type_of_member-class.ensures.member model is, refl)
    (line_printed refl
    (same_text c.args.out.now.style.form c.args.out.now.style.file options.tokens of class (has_directive model of) text
    (λ json. elim c.in-Text.is [
      | inl form ↦ let f : Text ≡ JsonLines = sym form ∙ c.form.ensures ∙ json in absurd cc
      | inr form ↦ let f : Letters ≡ JsonLines = sym form ∙ c.form.ensures ∙ json in absurd cc
    ]))
    (rw c.deref.ensures at c.print_text.ensures)))

pub returns-in-JsonLines : goal.returns-in-JsonLines
returns-in-JsonLines g c = λ model is.
    let options = c.args.source.now.options in
    let of = c.args.token in
    let class = c.type_of_member-class.result in
    let text = string_bytes c.declare_row.new.declared.text in
    row_chosen (rw c.if-not-is_chosen.false at (c.is_chosen.ensures model is))
    (row_printed options model c.args.out.now c.print_named.new.out of _ (sym (c.shows.ensures model is) ∙ c.if-not-shows.false) (text, c.in-Ok.ensures model is, class, c.type_of_member-class.ensures.member model is, refl)
    (rw (c.has_directive-has_directive.ensures model is) at (c.print_named.ensures (sym c.form.ensures ∙ c.in-JsonLines.is) options.tokens)))

pub returns-in-Err : goal.returns-in-Err
returns-in-Err g c = λ model is.
    row_chosen (rw c.if-not-is_chosen.false at (c.is_chosen.ensures model is))
    (rows_failed c.args.source.now.options model c.args.out.now c.fail.new.self (c.args.token ∷ []) (c.fail.ensures.lines []) c.fail.ensures.stopped)
