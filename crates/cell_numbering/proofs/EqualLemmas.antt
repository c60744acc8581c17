-- Uses of equal blobs, which are found in the heap that they are read from (ECMA-335 II.24.2.4).
use Rattle.std.proofs.Common.{◌≡◌, ℕ, ◌<◌, Bool, true, false, List, [], ◌∷◌, Option, Some, length, bytes_eq, true≢false, sym, ap, subst, ◌∙◌, refl}
use Rattle.std.proofs.lemmas.Slice.Eq.{bytes_eq-Decides}
use Rattle.cell_numbering.proofs.Prelude.{IsBlob, IsSameBlob, Metadata, CellId, blobs_of, BlobUse, IsUseIn}
use Rattle.metadata_source.specs.HeapCells.{AreBlobsIn}
use Rattle.cell_numbering.specs.EqualUses.{IsPlainAt, IsSameUse}

-- lists that cannot differ are equal
decided : (first second : List ℕ) (test : Bool) → bytes_eq first second ≡ test → ((first ≡ second → ⊥) → ⊥) → first ≡ second
decided first second true is same = (bytes_eq-Decides first second).0 is
decided first second false is same = absurd (same (λ e. true≢false (sym ((bytes_eq-Decides first second).1 e) ∙ is)))

pub stable : (first second : List ℕ) → ((first ≡ second → ⊥) → ⊥) → first ≡ second
stable first second same = decided first second (bytes_eq first second) refl same

same_some : (a b : ℕ) → Some a ≡ Some b → a ≡ b
same_some a b is = cc

same_head : (a b : List ℕ) → a ∷ [] ≡ b ∷ [] → a ≡ b
same_head a b is = cc

module _ (index_of : CellId → Option ℕ) (model : Metadata) (heap : List ℕ) (are : AreBlobsIn index_of heap model) where
  -- the blob of a use is at its index
  blob_at : (found : BlobUse) (index : ℕ) (blob : List ℕ) → IsPlainAt found index → IsUseIn index_of model found blob → IsBlob heap index blob
  blob_at found index blob plain is =
      let cell = is.indexed index plain.at in
      let here = are cell.id cell.there (cell.kind ∙ plain.kind) in
      let at = same_some here.index index (sym here.at ∙ cell.at) in
      let has = same_head here.content blob (sym (ap blobs_of here.is) ∙ cell.has) in
      subst (λ i. IsBlob heap i blob) at (subst (IsBlob heap here.index) has here.stands)

  pub same_blobs : ((h : List ℕ) (i : ℕ) (blob other : List ℕ) → IsBlob h i blob → IsBlob h i other → blob ≡ other)
      → (earlier found : BlobUse) (i j : ℕ) (first second : List ℕ) → IsPlainAt earlier i → IsPlainAt found j → IsSameBlob heap i j
      → IsUseIn index_of model earlier first → IsUseIn index_of model found second → first ≡ second
  same_blobs one earlier found i j first second plain other same is other_is =
      one heap i first second (blob_at earlier i first plain is) (same.same second (blob_at found j second other other_is))

-- plain uses of one blob
pub same_use : (earlier found : BlobUse) (i j : ℕ) (plain : IsPlainAt earlier i) (other : IsPlainAt found j) → plain.bytes ≡ other.bytes → IsSameUse earlier found
same_use earlier found i j plain other same = λ blob next is next_is. (
  plain.gives blob is ∙ same ∙ sym (other.gives next next_is),
  subst (λ (l : List ℕ). 0 < length l) (sym (other.gives next next_is)) other.some,
)
