-- The start of an owner's run, from its own number and from the next owner.
use Rattle.reading.proofs.Prelude.{◌≡◌, ◌≢◌, ℕ, zero, suc, ◌+◌, ◌-◌, ◌<◌, ◌≤◌, eqb, false, refl, ap, sym, ◌∙◌, inl, inr, arith, cases_eq, nat_tests, TableId, Source, rows_in, number_of, start_from, start_of}

from_here : (value : ℕ → ℕ) (past row left : ℕ) → 0 < left → value row ≢ 0 → start_from value past row left ≡ value row
from_here value past row zero h other = absurd (omega arith)
from_here value past row (suc left) h other = let test : eqb (value row) 0 ≡ false = grind (arith, nat_tests) in rw test refl

from_next : (value : ℕ → ℕ) (past row left tail : ℕ) → left ≡ tail + 1 → value row ≡ 0 → start_from value past row left ≡ start_from value past (row + 1) tail
from_next value past row zero tail e null = absurd (omega arith)
from_next value past row (suc left) tail e null = let same : left ≡ tail = omega arith in rw (null, same) refl

from_none : (value : ℕ → ℕ) (past row left : ℕ) → left ≡ 0 → start_from value past row left ≡ past
from_none value past row left e = rw e refl

-- if the owners up to one have the same start, and it has that of the next, then so do the owners up to the next
pub one_more : (start : ℕ → ℕ) (first last : ℕ) → first ≤ last → start last ≡ start (last + 1)
    → ((row : ℕ) → first ≤ row → row ≤ last → start row ≡ start first) → (row : ℕ) → first ≤ row → row ≤ last + 1 → start row ≡ start first
one_more start first last within next before row low high = elim (cases_eq row (last + 1)) [
  | inl same ↦ ap start same ∙ sym next ∙ before last within (omega arith)
  | inr other ↦ before row low (omega arith)
]

module _ (source : Source) (owner : TableId) (row column : ℕ) (member : TableId) where
  -- a number that is not null is itself the start
  pub start_here : row ≤ rows_in source owner → number_of source owner row column ≢ 0 → start_of source owner row column member ≡ number_of source owner
      row column
  unfolding start_of
  start_here within other = from_here (λ r. number_of source owner r column) (rows_in source member + 1) row (rows_in source owner + 1 - row)
      (omega arith) other

  -- the start of a null is that of the next owner
  pub start_next : row ≤ rows_in source owner → number_of source owner row column ≡ 0 → start_of source owner row column member ≡ start_of source owner
      (row + 1) column member
  unfolding start_of
  start_next within null = from_next (λ r. number_of source owner r column) (rows_in source member + 1) row (rows_in source owner + 1 - row)
      (rows_in source owner + 1 - (row + 1)) (omega arith) null

  -- after the last owner
  pub start_past : rows_in source owner < row → start_of source owner row column member ≡ rows_in source member + 1
  unfolding start_of
  start_past past = from_none (λ r. number_of source owner r column) (rows_in source member + 1) row (rows_in source owner + 1 - row) (omega arith)
