-- Rows that pass a test.
use Rattle.navigation.proofs.Prelude.{◌≡◌, ◌∙◌, ℕ, zero, suc, ◌+◌, ◌<◌, ◌≤◌, Bool, cond, ◌∷◌, refl, ap, arith, rows_that}

-- the same test
pub rows_same : (test other : ℕ → Bool) (row left : ℕ) → ((r : ℕ) → row ≤ r → r < row + left → test r ≡ other r) → rows_that test row left ≡ rows_that other row left
rows_same test other row zero same = refl
rows_same test other row (suc left) same =
    let tail = rows_same test other (row + 1) left (λ r from to. same r (omega arith) (omega arith)) in
    ap (λ t. cond t (row ∷ rows_that test (row + 1) left) (rows_that test (row + 1) left)) (same row (omega arith) (omega arith))
    ∙ ap (λ rows. cond (other row) (row ∷ rows) rows) tail
