-- The steps of the loops over cells and rows.
use Rattle.c_values.proofs.Prelude.{◌≡◌, ℕ, ◌+◌, ◌<◌, List, [], ◌∷◌, ◌++◌, length, take, drop, get_or, sym, ap, ◌∙◌, subst, arith, map-append, take_more, length-take-le, FirstBroken, TableId, table_number, said, all_said, with_row, Cell, Metadata, count_in, Refusal, ClimCell, ClimRow, NoRoot, AreCells, IsCell, IsGiven, IsRow, TableRow, IsFirstBadCell, IsFirstBadRow, IsOfBadRow, MatchNoRoot, count_given, row_after, rules_of_cell}
use Rattle.tables.specs.declared.cell.Cell.{Cell as Owned}
use Rattle.c_values.proofs.CellLemmas.{one_more_cell}
use Rattle.c_values.proofs.RowLemmas.{count_is}
use Rattle.c_values.proofs.ReasonLemmas.{reason_more, split_at}

-- one more cell is read
pub next_cell : (table : TableId) (given : List ClimCell) (k : ℕ) (d : ClimCell) (cells : List Owned) (cell : Owned) (all : List Owned) → k < length given
    → AreCells table 0 (take k given) (all_said cells) → IsCell table k (get_or given k d) (said cell) → all ≡ cells ++ cell ∷ []
    → AreCells table 0 (take (k + 1) given) (all_said all)
next_cell table given k d cells cell all below are is same =
    let short = length-take-le k given (omega (arith, below)) in
    let e : k ≡ 0 + length (take k given) = omega (arith, short) in
    rw (take_more given k d below, same, map-append said cells (cell ∷ []))
    (one_more_cell table 0 (take k given) (all_said cells) (get_or given k d) (said cell) are (subst (λ i. IsCell table i (get_or given k d) (said cell)) e is))

-- the next cell cannot be read
pub first_bad_cell : (table : TableId) (row : ℕ) (given : List ClimCell) (k : ℕ) (d : ClimCell) (cells : List Cell) (reason : NoRoot) → k < length given
    → AreCells table 0 (take k given) cells → MatchNoRoot (FirstBroken (rules_of_cell table row k (get_or given k d))) ⊥ reason
    → MatchNoRoot (IsFirstBadCell table row given) ⊥ reason
first_bad_cell table row given k d cells reason below are is =
    let short = length-take-le k given (omega (arith, below)) in
    let e : k ≡ length (take k given) = omega (arith, short) in
    let P : Refusal → ℕ → Type 0 = λ refusal i. FirstBroken (rules_of_cell table row i (get_or given k d)) refusal in
    reason_more (λ refusal. P refusal k) (IsFirstBadCell table row given) ⊥ ⊥ reason (λ refusal broken. record {
      before = take k given;
      bad = get_or given k d;
      others = drop (k + 1) given;
      split = split_at given k d below;
      read = (cells, are);
      broken = subst (P refusal) e broken;
    }) (λ x. x) is

-- one more row is read
pub next_row : (more : (version user : List ℕ) (given : List ClimRow) (model : Metadata) (next : ClimRow) (row : TableRow) → IsGiven version user given model → IsRow next row
    → IsGiven version user (given ++ next ∷ []) (with_row model row.table row.cells))
    → (version user : List ℕ) (given : List ClimRow) (k : ℕ) (d : ClimRow) (model new : Metadata) → k < length given → IsGiven version user (take k given) model
    → ((row : TableRow) × IsRow (get_or given k d) row × (new ≡ with_row model row.table row.cells)) → IsGiven version user (take (k + 1) given) new
next_row more version user given k d model new below is row =
    rw (take_more given k d below, row.2) (more version user (take k given) model (get_or given k d) row.0 is row.1)

-- the next row cannot be read
pub first_bad_row : (version user : List ℕ) (given : List ClimRow) (k : ℕ) (d : ClimRow) (model : Metadata) (reason : NoRoot) → k < length given
    → IsGiven version user (take k given) model
    → ((row : ℕ) → ((table : TableId) → table_number table ≡ (get_or given k d).table → row ≡ row_after (count_in model table)) → MatchNoRoot (IsOfBadRow row (get_or given k d)) ⊥ reason)
    → MatchNoRoot (IsFirstBadRow given) ⊥ reason
first_bad_row version user given k d model reason below is bad =
    let number = (get_or given k d).table in
    let row = row_after (count_given number (take k given)) in
    let count : (table : TableId) → table_number table ≡ number → row ≡ row_after (count_in model table) =
    λ table same. ap row_after (sym (count_is version user (take k given) model is table ∙ ap (λ (n : ℕ). count_given n (take k given)) same)) in
    reason_more (IsOfBadRow row (get_or given k d)) (IsFirstBadRow given) ⊥ ⊥ reason (λ refusal broken. record {
      before = take k given;
      bad = get_or given k d;
      others = drop (k + 1) given;
      split = split_at given k d below;
      read = (is.rows, is.given_rows);
      broken = broken;
    }) (λ x. x) (bad row count)
