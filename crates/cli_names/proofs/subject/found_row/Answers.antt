use Rattle.cli_names.proofs.Prelude.{refl}
use Rattle.cli_names.proofs.subject.found_row.Goals as goal

pub returns-in-Some-clause-sound : goal.returns-in-Some-clause-sound
returns-in-Some-clause-sound c = λ model is. rw c.in-Path.is (refl, rw c.in-Some.is at (c.in_ok-row-in-Path.ensures.sound model is))

pub returns-in-None-clause-none : goal.returns-in-None-clause-none
returns-in-None-clause-none c = λ model is of.
    let none = rw c.in-None.is at (c.in_ok-row-in-Path.ensures.none model is) in
    rw c.in-Path.is (λ at. none of.row at.1)
