-- In a column of signatures a value is the blob of a signature.
use Rattle.std.proofs.Common.{◌≡◌, ℕ, List, Bor, refl, subst}
use Rattle.table_schema.specs.declared.column.SigKind.{SigKind}
use Rattle.opening.proofs.Prelude.{ColumnKind, Cell, Shows, CellRef}
use Rattle.table_schema.specs.declared.column.ColumnKind.TheVariants.{Signature}
use Rattle.metadata.specs.Kinds.{IsOfKind}
use Rattle.reading.specs.declared.cell_ref.CellRef.TheVariants as seen

no_other : (kind : SigKind) (value : CellRef) (cell : Cell) → ((blob : Bor (List ℕ)) → value ≡ seen.Sig blob → ⊥) → IsOfKind (Signature kind) cell
    → Shows (Signature kind) value cell → ⊥
no_other kind (seen.Number number) cell other of shown = subst (IsOfKind (Signature kind)) shown of
no_other kind (seen.Text text) cell other of shown = subst (IsOfKind (Signature kind)) shown of
no_other kind (seen.Bytes blob) cell other of shown = subst (IsOfKind (Signature kind)) shown of
no_other kind (seen.Guid guid) cell other of shown = subst (IsOfKind (Signature kind)) shown of
no_other kind (seen.Ref reference) cell other of shown = subst (IsOfKind (Signature kind)) shown of
no_other kind (seen.Start start) cell other of shown = subst (IsOfKind (Signature kind)) shown of
no_other kind (seen.Sig blob) cell other of shown = other blob refl

pub signature_seen : (kind : SigKind) (column : ColumnKind) (value : CellRef) (cell : Cell) → ((blob : Bor (List ℕ)) → value ≡ seen.Sig blob → ⊥) → column ≡ Signature kind
    → IsOfKind column cell → Shows column value cell → ⊥
signature_seen kind column value cell other is of shown =
    let P : ColumnKind → Type 0 = λ k. IsOfKind k cell in
    let Q : ColumnKind → Type 0 = λ k. Shows k value cell in
    no_other kind value cell other (subst P is of) (subst Q is shown)
