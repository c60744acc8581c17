-- Two cells whose blobs are at one index of the blob heap are equal, and each text and each blob is at the index of its cell.
use Rattle.opening.proofs.Prelude.{◌≡◌, ℕ, Bool, Some, sym, subst, TableId, ColumnKind, column_of, Cell, IsCell, Source, number_of, StandsFor, start_of, nullable_at, CellId, IsBlobKind, ShareBlob, kind_by_id}
use Rattle.table_schema.specs.declared.column.ColumnKind.TheVariants as kind

-- what a number in a column of blobs or signatures represents does not depend on anything but the kind
stands_alike : (source : Source) (column : ColumnKind) (nullable other : Bool) (start more : TableId → ℕ) (number : ℕ) (cell : Cell) → IsBlobKind column
    → StandsFor source column nullable start number cell → StandsFor source column other more number cell
stands_alike source kind.Blob nullable other start more number cell blobs stands = stands
stands_alike source (kind.Signature signature) nullable other start more number cell blobs stands = stands
stands_alike source _ nullable other start more number cell blobs stands = absurd blobs

abbrev pub number_by_id : Source → CellId → ℕ
number_by_id source id = number_of source id.table id.row (column_of id.table id.cell_index)

same_some : (a b index : ℕ) → Some a ≡ Some index → Some b ≡ Some index → a ≡ b
same_some a b index first second = cc

-- a cell that the second number represents is represented by the first one, too
pub represented : (source : Source) (first second : CellId) → ShareBlob (λ id. Some (number_by_id source id)) first second → (cell : Cell)
    → IsCell source second.table second.row second.cell_index cell → IsCell source first.table first.row first.cell_index cell
represented source first second share cell is =
    let number = same_some (number_by_id source first) (number_by_id source second) share.index share.first_index share.second_index in
    let start = start_of source second.table second.row (column_of second.table second.cell_index) in
    let nullable = nullable_at second.table second.cell_index in
    let P : ColumnKind → Type 0 = λ k. StandsFor source k nullable start (number_by_id source second) cell in
    let Q : ℕ → Type 0 = λ n. StandsFor source (kind_by_id first) nullable start n cell in
    stands_alike source (kind_by_id first) nullable (nullable_at first.table first.cell_index) start (start_of source first.table first.row (column_of first.table first.cell_index))
    (number_by_id source first) cell share.blobs (subst Q (sym number) (subst P (sym share.kind) is))

-- what the number of a cell represents, by the kind of its column
pub stands_as : (source : Source) (id : CellId) (cell : Cell) (k : ColumnKind) → kind_by_id id ≡ k → IsCell source id.table id.row id.cell_index cell
    → StandsFor source k (nullable_at id.table id.cell_index) (start_of source id.table id.row (column_of id.table id.cell_index)) (number_by_id source id) cell
stands_as source id cell k column is =
    let start = start_of source id.table id.row (column_of id.table id.cell_index) in
    subst (λ (j : ColumnKind). StandsFor source j (nullable_at id.table id.cell_index) start (number_by_id source id) cell) column is
