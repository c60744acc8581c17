-- In a column of signatures, a value in index is the blob of a signature.
use Rattle.clim_c.proofs.Prelude.{Body, ◌≡◌, List, ℕ, Bor, refl, ColumnKind, Cell, Sig, CellRef, Shows}
use Rattle.reading.specs.declared.cell_ref.CellRef.TheVariants as seen

pub no_other_value : (column : ColumnKind) (signature : Body) (value : CellRef) (cell : Cell) → cell ≡ Sig signature → Shows column value cell
    → ((blob : Bor (List ℕ)) → value ≡ seen.Sig blob → ⊥) → ⊥
no_other_value column signature (seen.Sig blob) cell is shows other = other blob refl
no_other_value column signature _ cell is shows other = cc
