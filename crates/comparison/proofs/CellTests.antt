-- The equality test of two cells is true if and only if they are equal, and what it says of values in place.
use Rattle.comparison.proofs.Prelude.{◌≡◌, ◌↔◌, ℕ, Bool, IsTrue, List, Some, None, Result, refl, ap, ap₂, sym, subst, ◌∙◌, Cell, Number, Text, Bytes, Guid, Ref, Start, Sig, same_from_decides, IfOk, IfOk-weaker, Decides, Decides-like, Decides-eqb, bytes_eq-Decides, Token, Body, Encodes, SigKind, ColumnKind, Shows, ShowsSignature, CellRef, AreSignatures, is_same_cell}
use Rattle.std.specs.Borrow.{Bor}
use Rattle.sig_encoder.specs.Same.{is_same_body}
use Rattle.sig_encoder.proofs.SameLemmas.{denied, token_decides}
use Rattle.table_schema.specs.declared.column.ColumnKind.TheVariants as column_kind
use Rattle.reading.specs.declared.cell_ref.CellRef.TheVariants as seen
use Rattle.reading.specs.contracts.cell_ref.CellRefPartialEq.TheImpl as values

module _ (same : (a b : Body) → Decides (is_same_body a b) (a ≡ b)) where
  pub cell_decides : (a b : Cell) → Decides (is_same_cell a b) (a ≡ b)
  cell_decides (Number m) (Number n) = Decides-like _ (λ h. ap Number h) (λ k. cc k) (Decides-eqb m n)
  cell_decides (Text s) (Text t) = Decides-like _ (λ h. ap Text h) (λ k. cc k) (bytes_eq-Decides s t)
  cell_decides (Bytes s) (Bytes t) = Decides-like _ (λ h. ap Bytes h) (λ k. cc k) (bytes_eq-Decides s t)
  cell_decides (Guid None) (Guid None) = (λ h. refl, λ e. refl)
  cell_decides (Guid (Some s)) (Guid (Some t)) =
      Decides-like _ (λ h. ap (λ (g : List ℕ). Guid (Some g)) h) (λ k. cc k) (bytes_eq-Decides s t)
  cell_decides (Ref None) (Ref None) = (λ h. refl, λ e. refl)
  cell_decides (Ref (Some t)) (Ref (Some u)) = Decides-like _ (λ h. ap (λ (r : Token). Ref (Some r)) h) (λ k. cc k) (token_decides t u)
  cell_decides (Start m) (Start n) = Decides-like _ (λ h. ap Start h) (λ k. cc k) (Decides-eqb m n)
  cell_decides (Sig s) (Sig t) = Decides-like _ (λ h. ap Sig h) (λ k. cc k) (same s t)
  cell_decides _ _ = denied (λ k. absurd (cc k))

-- a value that is a signature stands for a signature
pub sig_shown : (kind : ColumnKind) (blob : List ℕ) (cell : Cell) → ShowsSignature kind blob cell → (signature : Body) × (cell ≡ Sig signature)
sig_shown (column_kind.Signature column) blob cell shows = (shows.0, shows.2)
sig_shown _ blob cell shows = absurd shows

-- the test of two values, of which at most one is a signature, is that of their cells
pub values_same : (kind : ColumnKind) (left right : CellRef) (first second : Cell) → ¬ AreSignatures left right → Shows kind left first → Shows kind right second
    → values.eq-value.it left right ≡ is_same_cell first second
values_same kind (seen.Sig a) (seen.Sig b) first second apart is also = absurd (apart tt)
values_same kind (seen.Sig a) _ first second apart is also = let shown = sig_shown kind a.now first is in rw (shown.1, also) refl
values_same kind _ (seen.Sig b) first second apart is also = let shown = sig_shown kind b.now second also in rw (is, shown.1) refl
values_same kind _ _ first second apart is also = rw (is, also) refl

-- the test of two signatures is that of their cells
pub signatures_tested : {E : Type 0} → ((a b : Body) → Decides (is_same_body a b) (a ≡ b)) → (kind : ColumnKind) (column : SigKind) (left right : CellRef) (blob other : Bor (List ℕ))
    (result : Result Bool E) → kind ≡ column_kind.Signature column → left ≡ seen.Sig blob → right ≡ seen.Sig other
    → ((a b : Body) → Encodes column a blob.now → Encodes column b other.now → IfOk result (λ same. IsTrue same ↔ (a ≡ b)))
    → (first second : Cell) → Shows kind left first → Shows kind right second → IfOk result (λ same. same ≡ is_same_cell first second)
signatures_tested law kind column left right blob other result is left_is right_is tested first second shows also =
    let one : ShowsSignature (column_kind.Signature column) blob.now first = subst (λ (k : ColumnKind). Shows k (seen.Sig blob) first) is (subst (λ (l : CellRef). Shows kind l first) left_is shows) in
    let two : ShowsSignature (column_kind.Signature column) other.now second = subst (λ (k : ColumnKind). Shows k (seen.Sig other) second) is (subst (λ (l : CellRef). Shows kind l second) right_is also) in
    IfOk-weaker result _ _ (λ same gives. same_from_decides same (is_same_body one.0 two.0) gives (law one.0 two.0) ∙ sym (ap₂ is_same_cell one.2 two.2)) (tested one.0 two.0 one.1 two.1)
