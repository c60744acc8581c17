use Rattle.cli_declarations.proofs.PieceLemmas.{on_ok}
use Rattle.cli_declarations.proofs.declaration.declare.Goals as goal

pub returns : goal.returns
returns c = λ model is. on_ok c.push_pieces.result (c.push_pieces.ensures model is) (λ gains. rw (rw c.clear.ensures at gains.2) gains.1)
