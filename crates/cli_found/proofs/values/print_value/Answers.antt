use Rattle.cli_found.proofs.values.print_value.Goals as goal

pub returns-in_default : goal.returns-in_default
returns-in_default g c = λ model is. rw (← c.in_default.ensures) (c.lines_follow.ensures.nothing _)

pub returns-in_default-lead_in : goal.returns-in_default-lead_in
returns-in_default-lead_in g c = λ model is. rw (← c.in-Some.ensures, ← c.in_default-lead_in.ensures) (c.lines_follow.ensures.nothing _)

pub returns : goal.returns
returns g c = λ model is.
    rw (← c.in-Some.ensures, ← c.in-Some-lead_in.ensures) (c.parts_follow.ensures.line _ _ _ _ _ _ c.begin_number.ensures (c.print_meaning.ensures model is) c.end.ensures)
