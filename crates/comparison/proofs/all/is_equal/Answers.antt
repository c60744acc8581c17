use Rattle.comparison.proofs.Prelude.{◌∙◌, List, take, ap, length, sym, arith, nil_from_length, Decides-eqb, Difference}
use Rattle.comparison.proofs.all.is_equal.Goals as goal

pub returns-in-Some : goal.returns-in-Some
returns-in-Some c = λ first second is also.
    let law = c.models_without_differences_are_equal.ensures.parts first second (c.models_of_roots_are_valid.ensures c.args.left.now first is)
    (c.models_of_roots_are_valid.ensures c.args.right.now second also) 1 (omega arith) in
    let found = c.in-Some.ensures.first first second is also in
    ((λ test. cc), (λ same. let nothing = ap (λ (xs : List Difference). take 1 xs) (law.1 same).0 in absurd cc))

pub returns-in_ok-found-in-None : goal.returns-in_ok-found-in-None
returns-in_ok-found-in-None c = λ first second is also.
    let law = c.models_without_differences_are_equal.ensures.parts first second (c.models_of_roots_are_valid.ensures c.args.left.now first is)
    (c.models_of_roots_are_valid.ensures c.args.right.now second also) 1 (omega arith) in
    let found = c.in_ok-found-in-None.ensures.sound first second is also in (
      (λ empty.
          let zero = (Decides-eqb c.in_ok-found-in-None.found.len 0).0 (sym c.is_empty.ensures ∙ empty) in
          law.0 (c.in-None.ensures.none first second is also, sym found ∙ nil_from_length c.in_ok-found-in-None.found.items (sym c.in_ok-found-in-None.found.ok.0 ∙ zero))),
      (λ same. c.is_empty.ensures ∙ (Decides-eqb c.in_ok-found-in-None.found.len 0).1 (c.in_ok-found-in-None.found.ok.0 ∙ ap length (found ∙ (law.1 same).1))),
    )
