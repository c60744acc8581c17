-- The names of the cells of a table.
use Rattle.std.proofs.Common.{◌≡◌, ◌∙◌, ℕ, ◌<◌, List, [], get_or, length, map, ap, sym}
use Rattle.std.proofs.lemmas.List.{get_or-map as within_map}
use Rattle.std.proofs.Math.ListN.{get_or-map}

-- the text at an index is that of the name there
pub text_at : {X : Type 0} (f : X → List ℕ) (of : List ℕ → List ℕ) (texts : List X) (names : List (List ℕ)) (index : ℕ) (x : X) → map f texts ≡ map of names
    → index < length texts → x ≡ get_or texts index x → f x ≡ of (get_or names index [])
text_at f of texts names index x same within is =
    ap f is
    ∙ sym (within_map f texts index x (of []) within)
    ∙ ap (λ xs. get_or xs index (of [])) same
    ∙ get_or-map of names index []
