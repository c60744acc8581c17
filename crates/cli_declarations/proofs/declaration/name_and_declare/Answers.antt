use Rattle.std.proofs.Common.{string_bytes, ◌∙◌, ◌∷◌, ◌++◌, [], List, ℕ, ap, append_assoc}
use Rattle.cli_declarations.proofs.PieceLemmas.{on_ok}
use Rattle.cli_declarations.proofs.declaration.name_and_declare.Goals as goal

pub returns : goal.returns
returns c = λ model is.
    let name = string_bytes c.name_row.new.declared.text in
    on_ok c.push_pieces.result (c.push_pieces.ensures model is) (λ gains.
    (name, gains.0, c.in_ok-name_row.ensures model is, gains.1, gains.2 ∙ ap (λ (t : List ℕ). t ++ gains.0) c.in_ok-push_plain.ensures ∙ append_assoc name (0 ∷ []) gains.0))
