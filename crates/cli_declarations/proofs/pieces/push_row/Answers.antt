use Rattle.cli_declarations.proofs.Prelude.{refl, token_text}
use Rattle.cli_declarations.proofs.PieceLemmas.{on_ok}
use Rattle.cli_declarations.proofs.pieces.push_row.Goals as goal

pub returns-in-Token : goal.returns-in-Token
returns-in-Token c = λ model is. rw c.in-Token.is (on_ok c.push_token.result c.push_token.ensures (λ e. (token_text c.args.token, refl, e)))

pub returns-in-Name : goal.returns-in-Name
returns-in-Name c = λ model is. rw c.in-Name.is (c.push_name.ensures model is)

pub returns-in-Reference : goal.returns-in-Reference
returns-in-Reference c = λ model is. rw c.in-Reference.is (c.push_reference.ensures model is)
