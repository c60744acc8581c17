-- The values of a row that is read in place are of their columns' kinds, and equal the cells of the model's row.
use Rattle.std.proofs.Common.{lit≤}
use Rattle.owned_model.proofs.Prelude.{◌≡◌, ℕ, zero, suc, ◌+◌, ◌<◌, ◌≤◌, Module, List, [], ◌∷◌, length, drop, Option, Some, None, option_map, get_or, slice_get, slice_set, refl, sym, ◌∙◌, ap, subst, arith, get_or-set_same, length-set, TableId, SigKind, ColumnKind, column_at, Body, locals, Encodes, IsOfKind, CellRef, Shows, kinds_of, AreOfKinds, IsShown, IsRefOfShape, IsSaid, shape_at, HoldsAt, SaysAt}
use Rattle.std.proofs.lemmas.Option.{slice_get-get_or, slice_get_within, get_or_from_slice_get}
use Rattle.std.proofs.lemmas.List.{get_or-set_other}
use Rattle.type_records.proofs.RowLemmas.{get_at, drop_next}
use borrow.Author.Count.{below_more}
use Rattle.table_schema.specs.declared.column.ColumnKind.TheVariants as kind
use Rattle.table_schema.specs.CellColumns.{cell_columns, cell_count, column_of}
use Rattle.metadata.specs.Cell.{Cell, Number, Text, Bytes, Guid, Ref, Start, Sig}
use Rattle.reading.specs.declared.cell_ref.CellRef.TheVariants as seen
use Rattle.type_records.specs.Shapes.{Shape, number, text, bytes, guid, reference, start, signature, shape_of, AreHeld, AreSaid}
use Rattle.type_records.specs.Signatures.{encoded}
use Rattle.owned_model.specs.declared.ref_row.RefRow.{RefRow}

-- ---- a list with one item set

get_set_here : {A : Type 0} → (xs : List A) (i : ℕ) (v : A) → i < length xs → slice_get (slice_set xs i v) i ≡ Some v
get_set_here xs i v h = slice_get-get_or (slice_set xs i v) i v (omega (arith, h, length-set xs i v)) ∙ ap Some (get_or-set_same xs i v v h)

get_set_below : {A : Type 0} → (xs : List A) (i k : ℕ) (v : A) → i < length xs → k < i → slice_get (slice_set xs i v) k ≡ slice_get xs k
get_set_below xs i k v within h =
    slice_get-get_or (slice_set xs i v) k v (omega (arith, h, within, length-set xs i v)) ∙ ap Some (get_or-set_other xs i k v v (λ same. omega (arith, h, same)))
    ∙ sym (slice_get-get_or xs k v (omega (arith, h, within)))

-- what holds of the values before an index, and of the one that is set there
pub one_more : (P : ℕ → Option CellRef → Type 0) (values : List CellRef) (cell_index : ℕ) (v : CellRef) → cell_index < length values
    → ((k : ℕ) → k < cell_index → P k (slice_get values k)) → P cell_index (Some v) → (k : ℕ) → k < cell_index + 1 → P k (slice_get (slice_set values cell_index v) k)
one_more P values cell_index v within before here k below =
    let Q : ℕ → Type 0 = λ n. P n (slice_get (slice_set values cell_index v) n) in
    below_more Q cell_index (λ j less. subst (P j) (sym (get_set_below values cell_index j v within less)) (before j less))
    (subst (P cell_index) (sym (get_set_here values cell_index v within)) here) k below

-- ---- the cells of a table

pub cells_few : (table : TableId) → cell_count table ≤ 9
unfolding cell_columns
cells_few Module = lit≤ tt
cells_few _ = lit≤ tt

-- ---- one value

-- a blob that encodes a signature is read as that signature
abbrev pub BlobsSay : Type 0
BlobsSay = (column : SigKind) (said : Body) (blob : List ℕ) → Encodes column said blob → encoded column blob ≡ said

-- the cell that a value equals; a signature blob has an arbitrary one
abbrev plain : CellRef → Cell
plain (seen.Number n) = Number n
plain (seen.Text t) = Text t.now
plain (seen.Bytes b) = Bytes b.now
plain (seen.Guid g) = Guid g
plain (seen.Ref r) = Ref r
plain (seen.Start n) = Start n
plain (seen.Sig blob) = Sig (locals [])

plain_held : (k : ColumnKind) (v : CellRef) → IsOfKind k (plain v) → IsRefOfShape (Some v) (shape_of k)
plain_held kind.U8 (seen.Number n) h = tt
plain_held kind.U16 (seen.Number n) h = tt
plain_held kind.U32 (seen.Number n) h = tt
plain_held kind.Text (seen.Text t) h = tt
plain_held kind.Guid (seen.Guid g) h = tt
plain_held kind.Blob (seen.Bytes b) h = tt
plain_held (kind.Signature column) (seen.Sig blob) h = tt
plain_held (kind.Row table) (seen.Ref r) h = tt
plain_held (kind.Coded coded) (seen.Ref r) h = tt
plain_held (kind.List member) (seen.Start n) h = tt
plain_held _ _ h = absurd h

signature_held : (k : ColumnKind) (blob : _) (c : Cell) → Shows k (seen.Sig blob) c → IsRefOfShape (Some (seen.Sig blob)) (shape_of k)
signature_held (kind.Signature column) blob c shows = tt
signature_held _ blob c shows = absurd shows

-- a value that equals a cell of its column's kind is of the column's shape
value_held : (k : ColumnKind) (v : CellRef) (c : Cell) → Shows k v c → IsOfKind k c → IsRefOfShape (Some v) (shape_of k)
value_held k (seen.Sig blob) c shows is = signature_held k blob c shows
value_held k v c shows is = plain_held k v (subst (IsOfKind k) shows is)

signature_said : BlobsSay → (k : ColumnKind) (blob : _) (c : Cell) → Shows k (seen.Sig blob) c → IsSaid (Some (seen.Sig blob)) (Some (shape_of k)) c
signature_said say (kind.Signature column) blob c shows = shows.2 ∙ ap Sig (sym (say column shows.0 blob.now shows.1))
signature_said say _ blob c shows = absurd shows

-- it denotes the cell that it equals
value_said : BlobsSay → (k : ColumnKind) (v : CellRef) (c : Cell) → Shows k v c → IsSaid (Some v) (Some (shape_of k)) c
value_said say k (seen.Sig blob) c shows = signature_said say k blob c shows
value_said say k _ c shows = shows

shown_held : (value : Option CellRef) (table : TableId) (cell_index : ℕ) (k : ColumnKind) (c : Cell) → (column_at table (column_of table cell_index)).kind ≡ k
    → IsShown value table cell_index c → IsOfKind k c → IsRefOfShape value (shape_of k)
shown_held None table cell_index k c at shown is = absurd shown
shown_held (Some v) table cell_index k c at shown is = let P : ColumnKind → Type 0 = λ held. Shows held v c in value_held k v c (subst P at shown) is

shown_said : BlobsSay → (value : Option CellRef) (table : TableId) (cell_index : ℕ) (k : ColumnKind) (c : Cell)
    → (column_at table (column_of table cell_index)).kind ≡ k → IsShown value table cell_index c → IsSaid value (Some (shape_of k)) c
shown_said say None table cell_index k c at shown = absurd shown
shown_said say (Some v) table cell_index k c at shown = let P : ColumnKind → Type 0 = λ held. Shows held v c in value_said say k v c (subst P at shown)

-- whether a value is of a shape is decidable
pub held_stable : (value : Option CellRef) (shape : Shape) → ¬ (¬ IsRefOfShape value shape) → IsRefOfShape value shape
held_stable (Some (seen.Number n)) number h = tt
held_stable (Some (seen.Text t)) text h = tt
held_stable (Some (seen.Bytes b)) bytes h = tt
held_stable (Some (seen.Guid g)) guid h = tt
held_stable (Some (seen.Ref r)) reference h = tt
held_stable (Some (seen.Start n)) start h = tt
held_stable (Some (seen.Sig blob)) (signature column) h = tt
held_stable _ _ h = absurd (h (λ held. held))

-- a value denotes one cell only
said_once : (value : Option CellRef) (shape : Option Shape) (c d : Cell) → IsSaid value shape c → IsSaid value shape d → c ≡ d
said_once (Some (seen.Number n)) shape c d h k = h ∙ sym k
said_once (Some (seen.Text t)) shape c d h k = h ∙ sym k
said_once (Some (seen.Bytes b)) shape c d h k = h ∙ sym k
said_once (Some (seen.Guid g)) shape c d h k = h ∙ sym k
said_once (Some (seen.Ref r)) shape c d h k = h ∙ sym k
said_once (Some (seen.Start n)) shape c d h k = h ∙ sym k
said_once (Some (seen.Sig blob)) (Some (signature column)) c d h k = h ∙ sym k
said_once _ _ c d h k = absurd h

-- ---- whole rows

of_kind_at : (kinds : List ColumnKind) (cells : List Cell) → AreOfKinds kinds cells → (cell_index : ℕ) (k : ColumnKind) → slice_get kinds cell_index ≡ Some k
    → IsOfKind k (get_or cells cell_index (Number 0))
of_kind_at [] cells are cell_index k at = absurd cc
of_kind_at (kind ∷ kinds) [] are cell_index k at = absurd are
of_kind_at (kind ∷ kinds) (c ∷ cs) are zero k at =
    let is : kind ≡ k = cc in
    let P : ColumnKind → Type 0 = λ held. IsOfKind held c in
    subst P is are.0
of_kind_at (kind ∷ kinds) (c ∷ cs) are (suc cell_index) k at = of_kind_at kinds cs are.1 cell_index k at

held_from : (row : RefRow) (cell_index : ℕ) (tail : List ColumnKind) → drop cell_index (kinds_of row.table) ≡ tail
    → ((p : ℕ) (k : ColumnKind) → slice_get (kinds_of row.table) p ≡ Some k → IsRefOfShape (slice_get row.values p) (shape_of k))
    → AreHeld (HoldsAt row) cell_index tail
unfolding shape_at
held_from row cell_index [] at each = tt
held_from row cell_index (k ∷ ks) at each =
    let here = get_at (kinds_of row.table) cell_index k ks at in
    ((each cell_index k here, ap (option_map shape_of) here), held_from row (cell_index + 1) ks (drop_next (kinds_of row.table) cell_index k ks at) each)

said_from : (row : RefRow) (whole : List Cell) (cell_index : ℕ) (tail : List ColumnKind) (cells : List Cell) → drop cell_index (kinds_of row.table) ≡ tail
    → drop cell_index whole ≡ cells → AreOfKinds tail cells
    → ((p : ℕ) (k : ColumnKind) → slice_get (kinds_of row.table) p ≡ Some k → IsSaid (slice_get row.values p) (Some (shape_of k)) (get_or whole p (Number 0)))
    → AreSaid (SaysAt row) cell_index tail cells
unfolding shape_at
said_from row whole cell_index [] [] at cell are each = tt
said_from row whole cell_index [] (c ∷ cs) at cell are each = absurd are
said_from row whole cell_index (k ∷ ks) [] at cell are each = absurd are
said_from row whole cell_index (k ∷ ks) (c ∷ cs) at cell are each =
    let here = get_at (kinds_of row.table) cell_index k ks at in
    let is : get_or whole cell_index (Number 0) ≡ c = get_or_from_slice_get whole cell_index c (Number 0) (get_at whole cell_index c cs cell) in
    let P : Cell → Type 0 = λ it. IsSaid (slice_get row.values cell_index) (Some (shape_of k)) it in
    let Q : Option Shape → Type 0 = λ shape. IsSaid (slice_get row.values cell_index) shape c in (
      subst Q (sym (ap (option_map shape_of) here)) (subst P is (each cell_index k here)),
      said_from row whole (cell_index + 1) ks cs (drop_next (kinds_of row.table) cell_index k ks at) (drop_next whole cell_index c cs cell) are.1 each,
    )

-- facts on the values of a row
pub record AreShown (row : RefRow) (whole : List Cell) : Type 0 where
  pub kinds : (cell_index : ℕ) → cell_index < cell_count row.table
      → slice_get (kinds_of row.table) cell_index ≡ Some (column_at row.table (column_of row.table cell_index)).kind
  pub count : length (kinds_of row.table) ≡ cell_count row.table
  pub are : AreOfKinds (kinds_of row.table) whole
  pub shown : (cell_index : ℕ) → cell_index < cell_count row.table → IsShown (slice_get row.values cell_index) row.table cell_index (get_or whole cell_index (Number 0))

below_count : (row : RefRow) (whole : List Cell) → AreShown row whole → (cell_index : ℕ) (k : ColumnKind) → slice_get (kinds_of row.table) cell_index ≡ Some k
    → (cell_index < cell_count row.table) × ((column_at row.table (column_of row.table cell_index)).kind ≡ k)
below_count row whole known cell_index k at =
    let within = slice_get_within (kinds_of row.table) cell_index k at in
    let below : cell_index < cell_count row.table = omega (arith, within, known.count) in
    let both = sym (known.kinds cell_index below) ∙ at in
    (below, cc)

pub value_holds : (row : RefRow) (whole : List Cell) → AreShown row whole → (cell_index : ℕ) (k : ColumnKind)
    → slice_get (kinds_of row.table) cell_index ≡ Some k → IsRefOfShape (slice_get row.values cell_index) (shape_of k)
value_holds row whole known cell_index k at =
    let found = below_count row whole known cell_index k at in
    shown_held (slice_get row.values cell_index) row.table cell_index k (get_or whole cell_index (Number 0)) found.1 (known.shown cell_index found.0)
    (of_kind_at (kinds_of row.table) whole known.are cell_index k at)

pub row_held : (row : RefRow)
    → ((p : ℕ) (k : ColumnKind) → slice_get (kinds_of row.table) p ≡ Some k → IsRefOfShape (slice_get row.values p) (shape_of k))
    → AreHeld (HoldsAt row) 0 (kinds_of row.table)
row_held row each = held_from row 0 (kinds_of row.table) refl each

pub row_said : BlobsSay → (row : RefRow) (whole : List Cell) → AreShown row whole → AreSaid (SaysAt row) 0 (kinds_of row.table) whole
row_said say row whole known =
    said_from row whole 0 (kinds_of row.table) whole refl refl known.are (λ cell_index k at.
    let found = below_count row whole known cell_index k at in
    shown_said say (slice_get row.values cell_index) row.table cell_index k (get_or whole cell_index (Number 0)) found.1 (known.shown cell_index found.0))

one_from : (row : RefRow) (cell_index : ℕ) (kinds : List ColumnKind) (a b : List Cell) → AreSaid (SaysAt row) cell_index kinds a → AreSaid (SaysAt row) cell_index kinds b → a ≡ b
one_from row cell_index [] [] [] h k = refl
one_from row cell_index [] [] (y ∷ ys) h k = absurd k
one_from row cell_index [] (x ∷ xs) b h k = absurd h
one_from row cell_index (kind ∷ kinds) [] b h k = absurd h
one_from row cell_index (kind ∷ kinds) (x ∷ xs) [] h k = absurd k
one_from row cell_index (kind ∷ kinds) (x ∷ xs) (y ∷ ys) h k =
    ap (λ tail. x ∷ tail) (one_from row (cell_index + 1) kinds xs ys h.1 k.1)
    ∙ ap (λ first. first ∷ ys) (said_once (slice_get row.values cell_index) (shape_at row.table cell_index) x y h.0 k.0)

-- a row in place denotes one row only
pub row_is_one : (row : RefRow) (kinds : List ColumnKind) (a b : List Cell) → AreSaid (SaysAt row) 0 kinds a → AreSaid (SaysAt row) 0 kinds b → a ≡ b
row_is_one row kinds a b h k = one_from row 0 kinds a b h k
