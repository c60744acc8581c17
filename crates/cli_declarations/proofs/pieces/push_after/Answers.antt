use Rattle.cli_declarations.proofs.Prelude.{string_bytes, ◌++◌, [], append_assoc, refl, sym, append-nil}
use Rattle.cli_declarations.proofs.PieceLemmas.{on_ok}
use Rattle.cli_declarations.proofs.pieces.push_after.Goals as goal

pub returns-in_ok-push_plain-in-Some : goal.returns-in_ok-push_plain-in-Some
returns-in_ok-push_plain-in-Some c = λ model is. rw c.in-Some.is (on_ok c.push_row.result (c.push_row.ensures model is) (λ gains.
    (c.args.word.now ++ gains.0, (gains.0, gains.1, refl), simp append_assoc at (rw c.in_ok-push_plain-in-Some.ensures at gains.2))))

pub returns-in-None : goal.returns-in-None
returns-in-None c = λ model is. rw c.in-None.is ([], refl, sym (append-nil (string_bytes c.args.declared.now.text)))
