-- What is refused is not valid metadata.
use Rattle.c_values.proofs.Prelude.{◌≡◌, ℕ, ◌+◌, List, [], ◌∷◌, length, inl, inr, sym, ◌∙◌, subst, arith, Rule, AllHold, FirstBroken, TableId, table_number, Cell, Metadata, IsValid, Refusal, ClimCell, ClimRow, AreCells, IsCell, AreRows, IsGiven, IsRow, TableRow, IsFirstBadCell, IsFirstBadRow, IsOfBadRow, IsRefused, row_after, count_given}
use Rattle.metadata.specs.Refusals.{refusals_of}
use Rattle.c_values.proofs.CellLemmas.{cell_amid, cell_not_broken}
use Rattle.c_values.proofs.RowLemmas.{row_amid}

-- if all rules hold, none is the first broken one
none_broken : (rules : List (Rule Refusal)) (refusal : Refusal) → AllHold rules → FirstBroken rules refusal → ⊥
none_broken [] refusal all first = first
none_broken (rule ∷ rules) refusal all (inl broken) = broken.0 all.0
none_broken (rule ∷ rules) refusal all (inr later) = none_broken rules refusal all.1 later.1

cells_not_bad : (table : TableId) (row : ℕ) (given : List ClimCell) (cells : List Cell) (refusal : Refusal) → AreCells table 0 given cells
    → IsFirstBadCell table row given refusal → ⊥
cells_not_bad table row given cells refusal are bad =
    let found = cell_amid table 0 bad.before bad.bad bad.others cells (rw bad.split at are) in
    let e : 0 + length bad.before ≡ length bad.before = omega arith in
    cell_not_broken table row (length bad.before) bad.bad found.0 refusal (subst (λ k. IsCell table k bad.bad found.0) e found.1) bad.broken

module _ (one : (a b : TableId) → table_number a ≡ table_number b → a ≡ b) where
  row_not_bad : (number : ℕ) (given : ClimRow) (row : TableRow) (refusal : Refusal) → IsRow given row → IsOfBadRow number given refusal → ⊥
  row_not_bad number given row refusal is (inl none) = none.0 row.table is.number
  row_not_bad number given row refusal is (inr bad) =
      cells_not_bad bad.0 number given.cells.now row.cells refusal (rw (one row.table bad.0 (is.number ∙ sym bad.1)) at is.cells) bad.2

  rows_not_bad : (given : List ClimRow) (rows : List TableRow) (refusal : Refusal) → AreRows given rows → IsFirstBadRow given refusal → ⊥
  rows_not_bad given rows refusal are bad =
      let found = row_amid bad.before bad.bad bad.others rows (rw bad.split at are) in
      row_not_bad (row_after (count_given bad.bad.table bad.before)) bad.bad found.0 refusal found.1 bad.broken

  pub not_valid : ((model : Metadata) → IsValid model → AllHold (refusals_of model)) → (version user : List ℕ) (given : List ClimRow) (refusal : Refusal) (model : Metadata)
      → ((other : Metadata) → IsGiven version user given other → other ≡ model)
      → IsRefused version user given refusal → IsGiven version user given model → IsValid model → ⊥
  not_valid met version user given refusal model same (inl utf8) is valid = utf8.0 is.utf8
  not_valid met version user given refusal model same (inr (inl bad)) is valid = rows_not_bad given is.rows refusal is.given_rows bad.1
  not_valid met version user given refusal model same (inr (inr broken)) is valid =
      none_broken (refusals_of model) refusal (met model valid) (rw (same broken.0 broken.1) at broken.2)
