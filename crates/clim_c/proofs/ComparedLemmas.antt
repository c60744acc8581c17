-- The first of what differs between two models.
use Rattle.clim_c.proofs.Prelude.{◌≡◌, List, [], ◌∷◌, ◌++◌, take, Option, slice_get, refl, sym, ap, subst, Metadata, Difference}
use Rattle.comparison.specs.Differences.{cell_differences, first_differences, first_differences_but, outline_differences}
use Rattle.clim_c.specs.Compared.{IsFirst}

-- the item of a list of at most one is the first
first_of_one : (found : Option Difference) (xs : List Difference) → found ≡ slice_get (take 1 xs) 0 → IsFirst found (take 1 xs)
first_of_one found [] is = subst (λ d. IsFirst d []) (sym is) refl
first_of_one found (x ∷ xs) is = subst (λ d. IsFirst d (x ∷ [])) (sym is) refl

module _ (left right : Metadata) where
  -- something other than a cell differs
  pub outline_first : (difference : Difference) → take 1 (outline_differences left right) ≡ difference ∷ [] → take 1 (first_differences left right 1) ≡ difference ∷ []
  unfolding first_differences_but
  outline_first difference is = ap (λ (xs : List Difference). take 1 (xs ++ take 1 (cell_differences left right))) is

  -- only cells differ
  pub cell_first : (found : Option Difference) → outline_differences left right ≡ [] → found ≡ slice_get (take 1 (cell_differences left right)) 0
      → IsFirst found (first_differences left right 1)
  unfolding first_differences_but
  cell_first found none is =
      subst (λ (xs : List Difference). IsFirst found (take 1 xs ++ take 1 (cell_differences left right))) (sym none) (first_of_one found (cell_differences left right) is)
