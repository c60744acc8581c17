use Rattle.comparison.proofs.Prelude.{◌∙◌, List, ◌∷◌, ◌++◌, take, ap, sym, Difference, cell_differences_but, first_differences_but}
use Rattle.comparison.proofs.all.differences_but.Goals as goal

pub returns-in_default-clause-sound : goal.returns-in_default-clause-sound
unfolding first_differences_but
returns-in_default-clause-sound c = λ first second is also.
    c.in_ok-cells.ensures.sound first second is also
    ∙ ap (λ (xs : List Difference). take 1 xs ++ take c.args.limit (cell_differences_but c.args.ignored.now first second)) (sym (c.in_default.ensures.none first second is also))

pub returns-clause-sound : goal.returns-clause-sound
unfolding first_differences_but
returns-clause-sound c = λ first second is also.
    c.in_ok-insert.ensures.items ∙ ap (λ xs. c.in-Some.first ∷ xs) (c.in_ok-cells.ensures.sound first second is also)
    ∙ ap (λ (xs : List Difference). xs ++ take c.args.limit (cell_differences_but c.args.ignored.now first second)) (sym (c.in-Some.ensures.first first second is also))
