-- What is given is at most one metadata.
use Rattle.c_values.proofs.Prelude.{◌≡◌, ℕ, ◌+◌, ◌-◌, ◌<◌, List, [], ◌∷◌, length, slice_index_or, Some, inl, inr, refl, sym, ap, ◌∙◌, arith, TableId, SigKind, table_number, table_index_of, tables, Encodes, Cell, Metadata, rows_of, ClimCell, ClimRow, CellKind, Number, Text, Row, Signature, AreCells, EncodesAs, IsCell, AreRows, IsGiven, IsRow, TableRow, cells_of}
use Rattle.std.proofs.lemmas.Bool.{cases_lt}
use Rattle.table_schema.specs.declared.table.TableId.TheVariants.{Module}
use Rattle.table_schema.specs.declared.column.ColumnKind.TheVariants as kind
use Rattle.sig_grammar.specs.Syntax.{Body}
use Rattle.metadata.specs.Cell as says
use Rattle.metadata.specs.Same.{SaysSame}
use Rattle.c_values.proofs.CellLemmas.{needs_encoding}

-- no two tables have one number: they are in the order of their numbers, each at its index
module _ (rise : (lower higher : TableId) → table_index_of lower < table_index_of higher → table_number lower < table_number higher)
    (stand : (table : TableId) → slice_index_or tables (table_index_of table) Module ≡ table) where
  pub table_one : (a b : TableId) → table_number a ≡ table_number b → a ≡ b
  table_one a b same = elim (cases_lt (table_index_of a) (table_index_of b)) [
    | inl below ↦ let less = rise a b below in absurd (omega (arith, less, same))
    | inr high ↦ elim (cases_lt (table_index_of b) (table_index_of a)) [
      | inl above ↦ let less = rise b a above in absurd (omega (arith, less, same))
      | inr low ↦
          let e : table_index_of a ≡ table_index_of b = omega (arith, high, low) in
          sym (stand a) ∙ ap (λ i. slice_index_or tables i Module) e ∙ stand b
    ]
  ]

  module _ (one : (kind : SigKind) (first second : Body) (bytes : List ℕ) → Encodes kind first bytes → Encodes kind second bytes → first ≡ second) where
    cell_as : (table : TableId) (column : ℕ) (kind : CellKind) (given : ClimCell) (a b : Cell) → EncodesAs table column kind given a → EncodesAs table column kind given b → a ≡ b
    cell_as table column Text given a b x y = x.1 ∙ sym y.1
    cell_as table column Row given a b x y =
        let e = table_one x.0 y.0 (x.1 ∙ sym y.1) in
        x.2 ∙ ap (λ (other : TableId). says.Ref (Some (record { table = other; row = given.number }))) e ∙ sym y.2
    cell_as table column Signature given a b x y =
        let e : kind.Signature x.0 ≡ kind.Signature y.0 = sym x.1.1 ∙ y.1.1 in
        let k : x.0 ≡ y.0 = cc in
        x.2.2 ∙ ap says.Sig (one y.0 x.2.0 y.2.0 given.bytes.now (rw k at x.2.1) y.2.1) ∙ sym y.2.2
    cell_as table column _ given a b x y = x ∙ sym y

    cell_one : (table : TableId) (column : ℕ) (given : ClimCell) (a b : Cell) → IsCell table column given a → IsCell table column given b → a ≡ b
    cell_one table column given a b x y = cell_as table column y.0 given a b (needs_encoding table column y.0 given a y.1 x) y.2

    cells_one : (table : TableId) (column : ℕ) (given : List ClimCell) (a b : List Cell) → AreCells table column given a → AreCells table column given b → a ≡ b
    cells_one table column [] [] [] x y = refl
    cells_one table column [] [] (d ∷ b) x y = absurd y
    cells_one table column [] (c ∷ a) b x y = absurd x
    cells_one table column (g ∷ given) [] b x y = absurd x
    cells_one table column (g ∷ given) (c ∷ a) [] x y = absurd y
    cells_one table column (g ∷ given) (c ∷ a) (d ∷ b) x y =
        ap (λ (first : Cell). first ∷ a) (cell_one table column g c d x.0 y.0) ∙ ap (λ (tail : List Cell). d ∷ tail) (cells_one table (column + 1) given a b x.1 y.1)

    row_one : (given : ClimRow) (a b : TableRow) → IsRow given a → IsRow given b → a ≡ b
    row_one given a b x y =
        let t : a.table ≡ b.table = table_one a.table b.table (x.number ∙ sym y.number) in
        let c : a.cells ≡ b.cells = cells_one b.table 0 given.cells.now a.cells b.cells (rw t at x.cells) y.cells in
        ap (λ (table : TableId). let row : TableRow = record { table = table; cells = a.cells } in row) t
        ∙ ap (λ (cells : List Cell). let row : TableRow = record { table = b.table; cells = cells } in row) c

    rows_one : (given : List ClimRow) (a b : List TableRow) → AreRows given a → AreRows given b → a ≡ b
    rows_one [] [] [] x y = refl
    rows_one [] [] (d ∷ b) x y = absurd y
    rows_one [] (c ∷ a) b x y = absurd x
    rows_one (g ∷ given) [] b x y = absurd x
    rows_one (g ∷ given) (c ∷ a) [] x y = absurd y
    rows_one (g ∷ given) (c ∷ a) (d ∷ b) x y =
        ap (λ (first : TableRow). first ∷ a) (row_one g c d x.0 y.0) ∙ ap (λ (tail : List TableRow). d ∷ tail) (rows_one given a b x.1 y.1)

    pub model_one : ((model other : Metadata) → SaysSame model other → model ≡ other)
        → (version user : List ℕ) (given : List ClimRow) (model other : Metadata) → IsGiven version user given model → IsGiven version user given other → model ≡ other
    model_one same version user given model other x y =
        let rows = rows_one given x.rows y.rows x.given_rows y.given_rows in
        let each : (table : TableId) → rows_of model table ≡ rows_of other table =
        λ table. x.cells table ∙ ap (λ (r : List TableRow). cells_of table r) rows ∙ sym (y.cells table) in
        same model other (record {
          version = x.has_version ∙ sym y.has_version;
          user = x.has_user ∙ sym y.has_user;
          tables = x.tables;
          other_tables = y.tables;
          counts = λ table. ap (λ (r : List (List Cell)). length r) (each table);
          long = λ table row there. ap (λ (r : List (List Cell)). length (slice_index_or r (row - 1) [])) (each table);
          cells = λ table row cell_index there within.
              ap (λ (r : List (List Cell)). slice_index_or (slice_index_or r (row - 1) []) cell_index (says.Number 0)) (each table);
        })
