use Rattle.std.proofs.Common.{◌≡◌, ℕ, zero, suc, ◌-◌, ◌≤◌, List, length, slice_index, refl, ap, sym, ◌∙◌, arith, inl, inr}
use Rattle.reading.proofs.Prelude.{cases_eq, column_at, column_of, Start, cell_in, rows_in, number_of, start_of, down_from}
use Rattle.reading.proofs.CellLemmas.{list_cell}
use Rattle.reading.proofs.starts.starts_of.Goals as goal

down_long : (value : ℕ → ℕ) (n : ℕ) → length (down_from value n) ≡ n
down_long value zero = refl
down_long value (suc n) = let tail = down_long value n in omega arith

down_at : (value : ℕ → ℕ) (n row : ℕ) → 1 ≤ row → row ≤ n → slice_index (down_from value n) (n - row) ≡ value row
down_at value zero row first last = absurd (omega arith)
down_at value (suc n) row first last = elim (cases_eq row (suc n)) [
  | inl same ↦ (let none : suc n - row ≡ 0 = omega arith in ap (λ k. slice_index (down_from value (suc n)) k) none ∙ ap value (sym same))
  | inr other ↦
      let more : suc n - row ≡ suc (n - row) = omega arith in
      ap (λ k. slice_index (down_from value (suc n)) k) more ∙ down_at value n row first (omega arith)
]

pub returns-clause-count : goal.returns-clause-count
returns-clause-count c =
    let source = c.args.source.now.source in
    ap (λ (l : List ℕ). length l) c.new.ensures
    ∙ down_long (λ row. start_of source c.args.table row c.column_of_cell.result c.args.member) (rows_in source c.args.table)

pub returns-clause-model : goal.returns-clause-model
returns-clause-model c = λ model read row first last.
    let source = c.args.source.now.source in
    let column = column_of c.args.table c.args.cell in
    let stands = read.cells c.args.table row c.args.cell first last c.requires.cell in
    let cell = list_cell source (column_at c.args.table column).kind (column_at c.args.table column).nullable (start_of source c.args.table row column)
    (number_of source c.args.table row column) (cell_in model c.args.table row c.args.cell) c.args.member c.requires.list stands in
    let value : ℕ → ℕ = λ r. start_of source c.args.table r c.column_of_cell.result c.args.member in
    let at = ap (λ (l : List ℕ). slice_index l (rows_in source c.args.table - row)) c.new.ensures
    ∙ down_at value (rows_in source c.args.table) row first last in
    let same : value row ≡ start_of source c.args.table row column c.args.member =
    ap (λ (k : ℕ). start_of source c.args.table row k c.args.member) c.column_of_cell.ensures.value in
    cell ∙ ap Start (sym (at ∙ same))
