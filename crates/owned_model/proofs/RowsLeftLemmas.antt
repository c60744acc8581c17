-- The rows that are left: all of them at first, and after each row those that follow it.
use Rattle.owned_model.proofs.Prelude.{◌≡◌, ℕ, suc, ◌+◌, ◌-◌, ◌≤◌, [], ◌∷◌, length, take, drop, ap, ◌∙◌, arith, drop_more, TableId, Metadata, rows_of, row_of, count_in}
use Rattle.std.proofs.Math.Seq.{take-length}
use Rattle.owned_model.specs.RowsLeft.{rows_between}

pub all_rows : (model : Metadata) (table : TableId) (count : ℕ) → count_in model table ≡ count → rows_between model table 1 count ≡ rows_of model table
unfolding rows_between
all_rows model table count is =
    let rows = rows_of model table in
    let all : count + 1 - 1 ≡ length rows = omega (arith, is) in
    ap (λ n. take n rows) all ∙ take-length rows

pub first_row : (model : Metadata) (table : TableId) (count first last : ℕ) → count_in model table ≡ count → 1 ≤ first → first ≤ last → last ≤ count
    → rows_between model table first last ≡ row_of model table first ∷ rows_between model table (first + 1) last
unfolding rows_between
first_row model table count first last is low some within =
    let rows = rows_of model table in
    let more = last + 1 - (first + 1) in
    let left : last + 1 - first ≡ suc more = omega arith in
    let from : first - 1 + 1 ≡ first + 1 - 1 = omega arith in
    ap (λ n. take n (drop (first - 1) rows)) left
    ∙ ap (λ xs. take (suc more) xs) (drop_more rows (first - 1) [] (omega (arith, is)))
    ∙ ap (λ n. row_of model table first ∷ take more (drop n rows)) from
