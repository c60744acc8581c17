use Rattle.clim_c.proofs.Prelude.{◌∙◌, List, ap, slice_get, Difference}
use Rattle.clim_c.proofs.ComparedLemmas.{cell_first, outline_first}
use Rattle.clim_c.proofs.compared.first_difference.Goals as goal

pub returns-in-Some : goal.returns-in-Some
returns-in-Some c = λ first second is also. outline_first first second c.in-Some.difference (c.in-Some.ensures.first first second is also)

pub returns : goal.returns
returns c = λ first second is also.
    let items = c.deref.ensures.value ∙ c.in_ok-cells.ensures.sound first second is also in
    cell_first first second c.copied.result (c.in_default.ensures.none first second is also)
    (c.copied.ensures ∙ c.first.ensures.value ∙ ap (λ (xs : List Difference). slice_get xs 0) items)
