-- Rows that are given one after another.
use Rattle.c_values.proofs.Prelude.{◌≡◌, ◌≢◌, ℕ, Bool, true, false, cond, nat_eq, List, [], ◌∷◌, ◌++◌, length, map, filter, inl, inr, refl, sym, ap, ◌∙◌, subst, arith, eqb_tells, map-append, append-nil, length-map, TableId, table_number, with_row, Cell, Metadata, rows_of, count_in, ClimRow, AreRows, IsGiven, IsRow, TableRow, cells_of, is_of, count_given}
use Rattle.std.proofs.lemmas.List.Elements.{filter-append}

-- one more row
pub one_more_row : (given : List ClimRow) (rows : List TableRow) (next : ClimRow) (row : TableRow) → AreRows given rows → IsRow next row
    → AreRows (given ++ next ∷ []) (rows ++ row ∷ [])
one_more_row [] [] next row are is = (is, tt)
one_more_row (x ∷ given) (y ∷ rows) next row are is = (are.0, one_more_row given rows next row are.1 is)
one_more_row [] (y ∷ rows) next row are is = absurd are
one_more_row (x ∷ given) [] next row are is = absurd are

-- a row amid others
pub row_amid : (before : List ClimRow) (here : ClimRow) (others : List ClimRow) (rows : List TableRow) → AreRows (before ++ here ∷ others) rows
    → (row : TableRow) × IsRow here row
row_amid [] here others [] are = absurd are
row_amid [] here others (y ∷ rows) are = (y, are.0)
row_amid (x ∷ before) here others [] are = absurd are
row_amid (x ∷ before) here others (y ∷ rows) are = row_amid before here others rows are.1

-- the cells of a table's rows, with one more row
cells_more : (table : TableId) (rows : List TableRow) (row : TableRow)
    → cells_of table (rows ++ row ∷ []) ≡ cells_of table rows ++ map (λ (r : TableRow). r.cells) (filter (is_of table) (row ∷ []))
cells_more table rows row =
    ap (λ (r : List TableRow). map (λ (r : TableRow). r.cells) r) (filter-append (is_of table) rows (row ∷ []))
    ∙ map-append (λ (r : TableRow). r.cells) (filter (is_of table) rows) (filter (is_of table) (row ∷ []))

cells_with : (table : TableId) (rows : List TableRow) (row : TableRow) → is_of table row ≡ true → cells_of table (rows ++ row ∷ []) ≡ cells_of table rows ++ row.cells ∷ []
cells_with table rows row of =
    cells_more table rows row ∙ ap (λ (b : Bool). cells_of table rows ++ map (λ (r : TableRow). r.cells) (cond b (row ∷ []) [])) of

cells_without : (table : TableId) (rows : List TableRow) (row : TableRow) → is_of table row ≡ false → cells_of table (rows ++ row ∷ []) ≡ cells_of table rows
cells_without table rows row of =
    cells_more table rows row ∙ ap (λ (b : Bool). cells_of table rows ++ map (λ (r : TableRow). r.cells) (cond b (row ∷ []) [])) of ∙ append-nil (cells_of table rows)

module _ (one : (a b : TableId) → table_number a ≡ table_number b → a ≡ b)
    (same : (model : Metadata) (table : TableId) (row : List Cell) → length model.tables ≡ 38 → rows_of (with_row model table row) table ≡ rows_of model table ++ row ∷ [])
    (other : (model : Metadata) (table other : TableId) (row : List Cell) → other ≢ table → rows_of (with_row model table row) other ≡ rows_of model other)
    (long : (model : Metadata) (table : TableId) (row : List Cell) → length (with_row model table row).tables ≡ length model.tables) where
  -- the rows of each table, with one more row of a table
  rows_more : (model : Metadata) (rows : List TableRow) (row : TableRow) → length model.tables ≡ 38 → (table : TableId) → rows_of model table ≡ cells_of table rows
      → rows_of (with_row model row.table row.cells) table ≡ cells_of table (rows ++ row ∷ [])
  rows_more model rows row tables table is = elim (eqb_tells (table_number row.table) (table_number table)) [
    | inl same_number ↦
        let e : row.table ≡ table = one row.table table same_number.1 in
        subst (λ t. rows_of (with_row model row.table row.cells) t ≡ rows_of model t ++ row.cells ∷ []) e (same model row.table row.cells tables) ∙ ap (λ (r : List (List Cell)). r ++ row.cells ∷ []) is ∙ sym (cells_with table rows row same_number.0)
    | inr other_number ↦
        other model row.table table row.cells (λ e. other_number.1 (ap table_number (sym e))) ∙ is ∙ sym (cells_without table rows row other_number.0)
  ]

  pub given_more : (version user : List ℕ) (given : List ClimRow) (model : Metadata) (next : ClimRow) (row : TableRow) → IsGiven version user given model → IsRow next row
      → IsGiven version user (given ++ next ∷ []) (with_row model row.table row.cells)
  given_more version user given model next row is here = record {
    utf8 = is.utf8;
    has_version = is.has_version;
    has_user = is.has_user;
    rows = is.rows ++ row ∷ [];
    given_rows = one_more_row given is.rows next row is.given_rows here;
    tables = long model row.table row.cells ∙ is.tables;
    cells = λ table. rows_more model is.rows row is.tables table (is.cells table);
  }

-- the number of rows of a table is that of the rows with its number
grown : {X Y : Type 0} (b : Bool) (x : X) (y : Y) (xs : List X) (ys : List Y) → length xs ≡ length ys → length (cond b (x ∷ xs) xs) ≡ length (cond b (y ∷ ys) ys)
grown true x y xs ys e = omega (arith, e)
grown false x y xs ys e = e

count_rows : (table : TableId) (given : List ClimRow) (rows : List TableRow) → AreRows given rows → length (filter (is_of table) rows) ≡ count_given (table_number table) given
count_rows table [] [] are = refl
count_rows table (x ∷ given) (y ∷ rows) are =
    let tail = count_rows table given rows are.1 in
    grown (is_of table y) y x (filter (is_of table) rows) (filter (λ (row : ClimRow). nat_eq row.table (table_number table)) given) tail
    ∙ ap (λ (n : ℕ). length (cond (nat_eq n (table_number table)) (x ∷ filter (λ (row : ClimRow). nat_eq row.table (table_number table)) given) (filter (λ (row : ClimRow). nat_eq row.table (table_number table)) given))) are.0.number
count_rows table [] (y ∷ rows) are = absurd are
count_rows table (x ∷ given) [] are = absurd are

pub count_is : (version user : List ℕ) (given : List ClimRow) (model : Metadata) → IsGiven version user given model → (table : TableId)
    → count_in model table ≡ count_given (table_number table) given
count_is version user given model is table =
    ap (λ (r : List (List Cell)). length r) (is.cells table) ∙ length-map (filter (is_of table) is.rows) (λ (r : TableRow). r.cells) ∙ count_rows table given is.rows is.given_rows
