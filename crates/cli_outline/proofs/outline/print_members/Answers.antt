use Rattle.cli_outline.proofs.Prelude.{IsModel}
use Rattle.cli_outline.proofs.outline.print_members.Goals as goal

pub returns-clause-lines : goal.returns-clause-lines
returns-clause-lines g c = λ model is.
    let here : IsModel c.args.cells.now model = rw c.requires.at is in
    rw (← c.run_of-rows.ensures.begin model here, ← c.run_of-rows.ensures.past model here, ← c.member.ensures.value) (c.print_positions.ensures model is)
