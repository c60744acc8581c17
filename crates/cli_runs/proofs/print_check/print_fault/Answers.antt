use Rattle.cli_runs.proofs.Prelude.{[], ◌∷◌, inl, inr, map, refl, seen}
use Rattle.cli_where.specs.Lines.{structure_line}
use Rattle.cli_runs.proofs.print_check.print_fault.Goals as goal

pub returns-in-Some : goal.returns-in-Some
returns-in-Some g c =
    let more = c.lines_follow.ensures.more in
    let verdict = rw c.label_of.ensures at c.print_verdict.ensures in
    let found = c.print_found.ensures in
    let said = c.print_explanation.ensures in (
      _,
      inl (c.in-Some.rule, c.in-Some.ensures.sound, found.0, found.1, said.0, said.1, refl),
      more _ _ _ (_ ∷ []) _ verdict (more _ _ _ (map structure_line (map seen c.args.structures.now)) _ c.print_structures.ensures
          (more _ _ _ found.0 _ found.2 (more _ _ _ ([] ∷ []) _ c.line.ensures said.2))),
    )

pub returns-in-None : goal.returns-in-None
returns-in-None g c =
    let more = c.lines_follow.ensures.more in
    let verdict = rw c.label_of.ensures at c.print_verdict.ensures in (
      [] ∷ [],
      inr ((λ rule is. let none = c.in-None.ensures.complete rule is in cc), refl),
      more _ _ _ (_ ∷ []) _ verdict (more _ _ _ (map structure_line (map seen c.args.structures.now)) _ c.print_structures.ensures c.line-in-None.ensures),
    )
