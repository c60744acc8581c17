-- Rows and tables that are filled one by one.
use Rattle.owned_model.proofs.Prelude.{◌≡◌, ℕ, zero, suc, ◌+◌, ◌<◌, List, [], ◌∷◌, ◌++◌, length, get_or, set, take, drop, refl, sym, ap, ◌∙◌, add-one, arith, map-append, take_more, get_or-set_same, set-set, take_all, TableId, tables, table_index_of, Metadata, rows_of, said, all_said, with_row, with_rows}
use Rattle.std.proofs.Common.{length-append, length-drop}
use Rattle.std.proofs.lemmas.List.{append-nil, drop_all, length-take, places}
use Rattle.metadata.specs.Cell.{Cell}
use Rattle.tables.specs.declared.cell.Cell.{Cell as Owned}

-- one more cell of a row
pub next_cell : (cells : List Owned) (cell : Owned) (row : List Cell) (k : ℕ) (d : Cell) → k < length row → all_said cells ≡ take k row → said cell ≡ get_or row k d
    → all_said (cells ++ cell ∷ []) ≡ take (k + 1) row
next_cell cells cell row k d below before here =
    map-append said cells (cell ∷ [])
    ∙ ap (λ (prefix : List Cell). prefix ++ said cell ∷ []) before
    ∙ ap (λ (last : Cell). take k row ++ last ∷ []) here
    ∙ sym (take_more row k d below)

-- one more row of a table
pub next_row : (model : Metadata) (table : TableId) (rows : List (List Cell)) (k : ℕ) → table_index_of table < length model.tables → k < length rows
    → with_row (with_rows model table (take k rows)) table (get_or rows k []) ≡ with_rows model table (take (k + 1) rows)
next_row model table rows k within below =
    let i = table_index_of table in
    let prefix = take k rows in
    let back : List (List Cell) = get_or rows k [] ∷ [] in
    let here : get_or (set model.tables i prefix) i [] ≡ prefix = get_or-set_same model.tables i prefix [] within in
    ap (λ (t : List (List (List Cell))). let m : Metadata = record model { tables = t } in m)
    (set-set model.tables i prefix (get_or (set model.tables i prefix) i [] ++ back)
    ∙ ap (λ (l : List (List Cell)). set model.tables i (l ++ back)) here
    ∙ ap (λ (l : List (List Cell)). set model.tables i l) (sym (take_more rows k [] below)))

-- the first tables are filled, and then the next one
pub next_padded : {X : Type 0} (full empty : List X) (d : X) (j : ℕ) → j < length full → j < length empty
    → set (take j full ++ drop j empty) j (get_or full j d) ≡ take (suc j) full ++ drop (suc j) empty
next_padded [] empty d j below left = absurd (omega arith)
next_padded (x ∷ full) [] d j below left = absurd (omega arith)
next_padded (x ∷ full) (y ∷ empty) d zero below left = refl
next_padded (x ∷ full) (y ∷ empty) d (suc j) below left = ap (λ l. x ∷ l) (next_padded full empty d j (omega arith) (omega arith))

-- the next one is unchanged
pub next_left : {X : Type 0} (full empty : List X) (d : X) (j : ℕ) → j < length full → j < length empty
    → get_or (take j full ++ drop j empty) j d ≡ get_or empty j d
next_left full empty d j below left = grind (arith, places)

-- their number is the same
pub padded_length : {X : Type 0} (full empty : List X) (j : ℕ) → length full ≡ length empty → length (take j full ++ drop j empty) ≡ length empty
padded_length full empty j same = omega (arith, length-append (take j full) (drop j empty), length-take j full, length-drop j empty)

-- all of them are filled
pub all_padded : {X : Type 0} (full empty : List X) → length full ≡ length empty → (j : ℕ) → length full ≡ j → take j full ++ drop j empty ≡ full
all_padded full empty same j all = rw (take_all j full (omega arith), drop_all j empty (omega arith)) (append-nil full)

-- one more table, of those that are filled in order
pub next_table : (model before : Metadata) (table : TableId) (j : ℕ) → length model.tables ≡ 38 → length before.tables ≡ 38 → j < 38 → table_index_of table ≡ j
    → with_rows (record before { tables = take j model.tables ++ drop j before.tables }) table (rows_of model table)
    ≡ record before { tables = take (j + 1) model.tables ++ drop (j + 1) before.tables }
next_table model before table j full empty below here =
    let made : List (List (List Cell)) = take j model.tables ++ drop j before.tables in
    let next = next_padded model.tables before.tables [] j (omega (arith, full)) (omega (arith, empty)) in
    ap (λ (t : List (List (List Cell))). let m : Metadata = record before { tables = t } in m)
    (ap (λ (i : ℕ). set made i (get_or model.tables i [])) here ∙ next ∙ ap (λ (i : ℕ). take i model.tables ++ drop i before.tables) (sym (add-one j)))
