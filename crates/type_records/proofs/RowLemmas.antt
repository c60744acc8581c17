-- Owned cells of the kinds of columns have the shapes of these columns, and their contents are those of their record.
use Rattle.std.proofs.Common.{◌≡◌, ℕ, zero, suc, ◌+◌, List, [], ◌∷◌, drop, Some, option_map, slice_get, sym, ◌∙◌, ap, refl, arith}
use Rattle.std.proofs.lemmas.Grind.{common_steps}
use Rattle.std.proofs.lemmas.List.{drop-drop}
use Rattle.table_schema.specs.declared.column.ColumnKind.{ColumnKind}
use Rattle.table_schema.specs.declared.column.ColumnKind.TheVariants as kind
use Rattle.metadata.specs.Cell.{Cell}
use Rattle.metadata.specs.Kinds.{IsOfKind}
use Rattle.tables.specs.declared.cell.Cell.{Cell as Owned}
use Rattle.tables.specs.declared.cell.Cell.TheVariants as cell
use Rattle.tables.specs.Said.{said, all_said}
use Rattle.type_records.specs.Kinds.{AreOfKinds}
use Rattle.type_records.specs.Shapes.{shape_of, IsOfShape, AreHeld, AreSaid}

-- the first item from an index on is the item with this index
pub get_at : {A : Type 0} (all : List A) (cell_index : ℕ) (c : A) (tail : List A) → drop cell_index all ≡ c ∷ tail → slice_get all cell_index ≡ Some c
get_at [] zero c tail h = absurd cc
get_at [] (suc p) c tail h = absurd cc
get_at (x ∷ xs) zero c tail h = grind (arith, common_steps, h)
get_at (x ∷ xs) (suc p) c tail h = get_at xs p c tail h

-- the other items follow from the next index on
pub drop_next : {A : Type 0} (all : List A) (cell_index : ℕ) (c : A) (tail : List A) → drop cell_index all ≡ c ∷ tail → drop (cell_index + 1) all ≡ tail
drop_next all cell_index c tail h = sym (drop-drop 1 cell_index all) ∙ ap (drop 1) h

-- a cell of a column's kind has the shape of the column's cells
kind_shape : (k : ColumnKind) (c : Owned) → IsOfKind k (said c) → IsOfShape (Some c) (shape_of k)
kind_shape kind.U8 (cell.Number n) h = tt
kind_shape kind.U16 (cell.Number n) h = tt
kind_shape kind.U32 (cell.Number n) h = tt
kind_shape kind.Text (cell.Text t) h = tt
kind_shape kind.Guid (cell.Guid g) h = tt
kind_shape kind.Blob (cell.Bytes b) h = tt
kind_shape (kind.Signature column) (cell.Sig s) h = tt
kind_shape (kind.Row table) (cell.Ref r) h = tt
kind_shape (kind.Coded coded) (cell.Ref r) h = tt
kind_shape (kind.List member) (cell.Start n) h = tt
kind_shape _ _ h = absurd h

held_from : (all : List Owned) (cell_index : ℕ) (kinds : List ColumnKind) (tail : List Owned) → drop cell_index all ≡ tail → AreOfKinds kinds (all_said tail)
    → AreHeld (λ p s. IsOfShape (slice_get all p) s) cell_index kinds
held_from all cell_index [] tail at are = tt
held_from all cell_index (k ∷ ks) [] at are = absurd are
held_from all cell_index (k ∷ ks) (c ∷ cs) at are =
    (rw (get_at all cell_index c cs at) (kind_shape k c are.0), held_from all (cell_index + 1) ks cs (drop_next all cell_index c cs at) are.1)

-- rows with the number and kinds of a table can be read
pub cells_are_held : (all : List Owned) (kinds : List ColumnKind) → AreOfKinds kinds (all_said all) → AreHeld (λ p s. IsOfShape (slice_get all p) s) 0 kinds
cells_are_held all kinds are = held_from all 0 kinds all refl are

said_one : (all : List Owned) (cell_index : ℕ) (c : Owned) (said_as : Cell) → slice_get all cell_index ≡ Some c → option_map said (slice_get all cell_index) ≡ Some said_as → said_as ≡ said c
said_one all cell_index c said_as at says = grind (arith, common_steps, at, says)

said_from : (all : List Owned) (cell_index : ℕ) (kinds : List ColumnKind) (tail : List Owned) (cells : List Cell) → drop cell_index all ≡ tail
    → AreOfKinds kinds (all_said tail) → AreSaid (λ p c. option_map said (slice_get all p) ≡ Some c) cell_index kinds cells → cells ≡ all_said tail
said_from all cell_index [] [] [] at are say = refl
said_from all cell_index [] [] (x ∷ xs) at are say = absurd say
said_from all cell_index [] (c ∷ cs) _ at are say = absurd are
said_from all cell_index (k ∷ ks) [] _ at are say = absurd are
said_from all cell_index (k ∷ ks) (c ∷ cs) [] at are say = absurd say
said_from all cell_index (k ∷ ks) (c ∷ cs) (x ∷ xs) at are say =
    ap (λ tail. x ∷ tail) (said_from all (cell_index + 1) ks cs xs (drop_next all cell_index c cs at) are.1 say.1)
    ∙ ap (λ first. first ∷ all_said cs) (said_one all cell_index c x (get_at all cell_index c cs at) say.0)

-- the values that are read are the contents of the cells
pub cells_are_said : (all : List Owned) (kinds : List ColumnKind) (cells : List Cell) → AreOfKinds kinds (all_said all)
    → AreSaid (λ p c. option_map said (slice_get all p) ≡ Some c) 0 kinds cells → cells ≡ all_said all
cells_are_said all kinds cells are say = said_from all 0 kinds all cells refl are say
