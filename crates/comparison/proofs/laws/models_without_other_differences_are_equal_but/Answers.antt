use Rattle.comparison.proofs.EqualLemmas.{first_differs, first_nothing_differs, nothing_else_differs}
use Rattle.comparison.proofs.laws.models_without_other_differences_are_equal_but.Goals as goal

pub returns : goal.returns
returns c = λ ignored first second valid also limit some.
    let parts = nothing_else_differs c.cells_are_tested.ensures ignored first second c.tables_stand.ensures.count c.tables_stand.ensures.table_index c.tables_stand.ensures.stand limit some in (
      (λ none. parts.0 (first_differs ignored first second limit none)),
      (λ alike. let none = parts.1 alike in first_nothing_differs ignored first second limit none.0 none.1),
    )
