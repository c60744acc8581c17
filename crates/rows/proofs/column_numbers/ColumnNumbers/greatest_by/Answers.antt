use Rattle.rows.proofs.Prelude.{◌≡◌, ℕ, ◌+◌, ◌<◌, ◌≤◌, max, inl, inr, arith, cases_lt, ColumnBytes, number_in_row, IsAmong}
use Rattle.rows.proofs.column_numbers.ColumnNumbers.greatest_by.Goals as goal

bound_more : (column : ColumnBytes) (end number greatest most : ℕ) → number ≡ number_in_row column end → most ≡ max number greatest
    → ((row : ℕ) → 1 ≤ row → row < end → number_in_row column row ≤ greatest)
    → (row : ℕ) → 1 ≤ row → row < end + 1 → number_in_row column row ≤ most
bound_more column end number greatest most is max_is before row first within = elim (cases_lt row end) [
  | inl earlier ↦ omega (arith, max_is, before row first earlier)
  | inr last ↦ let same : row ≡ end = omega arith in rw same (omega (arith, is, max_is))
]

among_more : (column : ColumnBytes) (end number greatest most : ℕ) → 1 ≤ end → number ≡ number_in_row column end → most ≡ max number greatest
    → (0 < greatest → IsAmong column end greatest) → 0 < most → IsAmong column (end + 1) most
among_more column end number greatest most first is max_is before some = elim (cases_lt greatest number) [
  | inl more ↦ record { row = end; first = first; before = omega arith; equal = omega (arith, max_is, is) }
  | inr less ↦ let here = before (omega (arith, max_is)) in record { row = here.row; first = here.first; before = omega (arith, here.before); equal = omega (arith, max_is, here.equal) }
]

pub loop-row-preserved : goal.loop-row-preserved
loop-row-preserved g c =
    let column = c.args.self.now in
    record {
      bound = bound_more column c.loop-row.row c.number_by.result c.loop-row.greatest c.max-greatest.result c.number_by.ensures c.max-greatest.ensures c.loop-row.invariant.bound;
      among = among_more column c.loop-row.row c.number_by.result c.loop-row.greatest c.max-greatest.result c.loop-row.auto.row c.number_by.ensures c.max-greatest.ensures
          c.loop-row.invariant.among;
    }
