-- Cells of a valid model that are references or texts.
use Rattle.navigation.proofs.Prelude.{◌≡◌, ℕ, zero, suc, ◌<◌, ◌≤◌, Bool, false, List, [], ◌∷◌, Option, Some, None, refl, sym, ap, subst, arith, Bor, ∥∥₁_elim, le_prop, TableId, Token, ColumnKind, cell_count, Cell, Number, Text, Ref, Sig, IsOfKind, Metadata, cell_in, count_in, HasRow, IsValid, MayRefer, kind_at, nullable_at, Shows, ⊤, Contains, IfSome}
use Rattle.std.proofs.lemmas.Option.{same_Some}
use Rattle.table_schema.specs.declared.column.ColumnKind.TheVariants as kind
use Rattle.reading.specs.declared.cell_ref.CellRef.{CellRef}
use Rattle.reading.specs.declared.cell_ref.CellRef.TheVariants as seen

-- a row of a source is a row of its model, and its cells are of the kinds of their columns
pub row_there : (model : Metadata) (table : TableId) (row count : ℕ) → count_in model table ≡ count → 1 ≤ row → row ≤ count → HasRow model table row
row_there model table row count counted first last = (first, rw counted last)

pub of_kind : (model : Metadata) → IsValid model → (table : TableId) (row cell count : ℕ) → count_in model table ≡ count → 1 ≤ row → row ≤ count → cell < cell_count table
    → IsOfKind (kind_at table cell) (cell_in model table row cell)
of_kind model valid table row cell count counted first last within = (valid.cells table row cell (row_there model table row count counted first last) within).of_kind

-- a reference to a row of a table, which is not null
abbrev pub IsTo : Metadata → TableId → Option Token → Type 0
IsTo model of None = ⊥
IsTo model of (Some token) = (token ≡ record { table = of; row = token.row }) × HasRow model of token.row

only_table : (of : TableId) (token : Token) → Contains (Some of ∷ []) (Some token.table) → of ≡ token.table
only_table of token (zero, within, is) = same_Some of token.table is
only_table of token (suc k, within, is) = absurd (omega arith)

is_to : (model : Metadata) (of : TableId) (reference : Option Token) → IsOfKind (kind.Row of) (Ref reference) → MayRefer model false (Ref reference) → IsTo model of reference
is_to model of None of_kind refers = absurd cc
is_to model of (Some token) of_kind refers =
    let same = sym (only_table of token of_kind) in
    (ap (λ (t : TableId). record { table = t; row = token.row }) same, subst (λ (t : TableId). HasRow model t token.row) same refers)

-- in a column of rows of a table that allows no null, a reference is to a row of the table
pub to_row : (model : Metadata) → IsValid model → (of table : TableId) (row cell count : ℕ) → count_in model table ≡ count → 1 ≤ row → row ≤ count → cell < cell_count table
    → kind_at table cell ≡ kind.Row of → nullable_at table cell ≡ false
    → (reference found : Option Token) → cell_in model table row cell ≡ Ref reference → reference ≡ found → IsTo model of found
to_row model valid of table row cell count counted first last within is_row not_null reference found is same =
    let held = valid.cells table row cell (row_there model table row count counted first last) within in
    let P : ColumnKind → Type 0 = λ k. IsOfKind k (Ref reference) in
    let Q : Cell → Type 0 = λ c. IsOfKind (kind_at table cell) c in
    let R : Bool → Type 0 = λ b. MayRefer model b (Ref reference) in
    let T : Cell → Type 0 = λ c. MayRefer model (nullable_at table cell) c in
    subst (IsTo model of) same (is_to model of reference (subst P is_row (subst Q is held.of_kind)) (subst R not_null (subst T is held.refers)))

-- a reference that is not null is to a row that exists
pub refers_to : (model : Metadata) → IsValid model → (table : TableId) (row cell : ℕ) → HasRow model table row → cell < cell_count table
    → (token : Token) → cell_in model table row cell ≡ Ref (Some token) → HasRow model token.table token.row
refers_to model valid table row cell there within token is =
    rw is at (valid.cells table row cell there within).refers

-- a reference is to a row that exists, if it is so in some model with these numbers of rows
pub referred : (rows : TableId → ℕ) (reference : Option Token)
    → ∥ ((model : Metadata) × ((table : TableId) → count_in model table ≡ rows table) × ((of : Token) → reference ≡ Some of → HasRow model of.table of.row)) ∥₁
    → IfSome reference (λ of. (1 ≤ of.row) × (of.row ≤ rows of.table))
referred rows None some = tt
referred rows (Some of) some = (
  ∥∥₁_elim some le_prop (λ it. (it.2 of refl).0),
  ∥∥₁_elim some le_prop (λ it. let count = it.1 of.table in let within = (it.2 of refl).1 in omega (arith, count, within)),
)

-- the kinds of cells
abbrev IsReference : Cell → Type 0
IsReference (Ref reference) = ⊤
IsReference _ = ⊥

abbrev IsText : Cell → Type 0
IsText (Text text) = ⊤
IsText _ = ⊥

references : (kind : ColumnKind) (cell : Cell) → IsOfKind kind cell → IsOfKind kind (Ref None) → IsReference cell
references kind (Ref reference) is null = tt
references (kind.Row table) _ is null = absurd is
references (kind.Coded coded) _ is null = absurd is
references _ _ is null = absurd null

texts : (cell : Cell) → IsOfKind kind.Text cell → IsText cell
texts (Text text) is = tt
texts _ is = absurd is

-- a value that stands for a reference is one
pub shows_reference : (kind : ColumnKind) (value : CellRef) (cell : Cell) → Shows kind value cell → IsOfKind kind cell → IsOfKind kind (Ref None)
    → ((reference : Option Token) → value ≡ seen.Ref reference → ⊥) → ⊥
shows_reference kind (seen.Ref reference) cell shows is null not = not reference refl
shows_reference (kind.Row table) (seen.Sig blob) cell shows is null not = absurd shows
shows_reference (kind.Coded coded) (seen.Sig blob) cell shows is null not = absurd shows
shows_reference _ (seen.Sig blob) cell shows is null not = absurd null
shows_reference kind _ cell shows is null not = subst IsReference shows (references kind cell is null)

abbrev IsNumber : Cell → Type 0
IsNumber (Number number) = ⊤
IsNumber _ = ⊥

numbers : (kind : ColumnKind) (cell : Cell) → IsOfKind kind cell → IsOfKind kind (Number 0) → IsNumber cell
numbers kind (Number number) is fits = tt
numbers kind.U8 _ is fits = absurd is
numbers kind.U16 _ is fits = absurd is
numbers kind.U32 _ is fits = absurd is
numbers _ _ is fits = absurd fits

-- a value that stands for a number is one
pub shows_number : (kind : ColumnKind) (value : CellRef) (cell : Cell) → Shows kind value cell → IsOfKind kind cell → IsOfKind kind (Number 0)
    → ((number : ℕ) → value ≡ seen.Number number → ⊥) → ⊥
shows_number kind (seen.Number number) cell shows is fits not = not number refl
shows_number kind.U8 (seen.Sig blob) cell shows is fits not = absurd shows
shows_number kind.U16 (seen.Sig blob) cell shows is fits not = absurd shows
shows_number kind.U32 (seen.Sig blob) cell shows is fits not = absurd shows
shows_number _ (seen.Sig blob) cell shows is fits not = absurd fits
shows_number kind _ cell shows is fits not = subst IsNumber shows (numbers kind cell is fits)

-- a value that stands for a text is one
pub shows_text : (value : CellRef) (cell : Cell) → Shows kind.Text value cell → IsOfKind kind.Text cell
    → ((text : Bor (List ℕ)) → value ≡ seen.Text text → ⊥) → ⊥
shows_text (seen.Text text) cell shows is not = not text refl
shows_text (seen.Sig blob) cell shows is not = absurd shows
shows_text _ cell shows is not = subst IsText shows (texts cell is)
