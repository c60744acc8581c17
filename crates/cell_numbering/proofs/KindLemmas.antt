-- Which cells are in which heap, by the kinds of their columns.
use Rattle.cell_numbering.proofs.Prelude.{◌≡◌, ◌<◌, ◌≤◌, ℕ, Option, List, [], refl, sym, ap, subst, ◌∙◌, arith, Bor, SigKind, ColumnKind, TableId, cell_count, kind_at, cell_in, Metadata, IsValid, Cell, Number, Text, Bytes, Guid, Ref, Start, Sig, IsOfKind, Shows, ShowsSignature, CellRef, cell_number, texts_of, blobs_of, IsInNoHeap, guid_of, SoFar, no_pools, with_blob, with_cell, with_guid, with_number, with_text}
use Rattle.table_schema.specs.declared.column.ColumnKind.TheVariants as kind
use Rattle.sig_grammar.specs.Syntax.{Body}
use Rattle.metadata.specs.Metadata.{count_in}
use Rattle.reading.specs.declared.cell_ref.CellRef.TheVariants as seen
use Rattle.cell_numbering.specs.declared.numbers_so_far.Indexes.{Indexes}

-- a cell of a valid model has the kind of its column
pub cell_fits : (model : Metadata) → IsValid model → (table : TableId) (row cell_index count : ℕ) → count_in model table ≡ count → 1 ≤ row → row ≤ count → cell_index < cell_count table
    → IsOfKind (kind_at table cell_index) (cell_in model table row cell_index)
cell_fits model valid table row cell_index count rows first last below = (valid.cells table row cell_index (first, omega (arith, rows, last)) below).of_kind

-- ---- the number of a cell in a column of a heap is the next index

text_column : (indexes : Indexes) (cell : Cell) (so_far : SoFar) → IsOfKind kind.Text cell → with_cell indexes kind.Text cell so_far ≡ with_text indexes.texts.now so_far
text_column indexes (Text text) so_far of = refl
text_column indexes cell so_far of = absurd of

guid_column : (indexes : Indexes) (cell : Cell) (so_far : SoFar) → IsOfKind kind.Guid cell → with_cell indexes kind.Guid cell so_far ≡ with_guid indexes.guids.now so_far
guid_column indexes (Guid guid) so_far of = refl
guid_column indexes cell so_far of = absurd of

blob_column : (indexes : Indexes) (cell : Cell) (so_far : SoFar) → IsOfKind kind.Blob cell → with_cell indexes kind.Blob cell so_far ≡ with_blob indexes.blobs.now so_far
blob_column indexes (Bytes blob) so_far of = refl
blob_column indexes cell so_far of = absurd of

signature_column : (indexes : Indexes) (column : SigKind) (cell : Cell) (so_far : SoFar) → IsOfKind (kind.Signature column) cell
    → with_cell indexes (kind.Signature column) cell so_far ≡ with_blob indexes.blobs.now so_far
signature_column indexes column (Sig signature) so_far of = refl
signature_column indexes column cell so_far of = absurd of

module _ (indexes : Indexes) (k : ColumnKind) (cell : Cell) (so_far : SoFar) (of : IsOfKind k cell) where
  pub next_text : k ≡ kind.Text → with_cell indexes k cell so_far ≡ with_text indexes.texts.now so_far
  next_text is =
      ap (λ (column : ColumnKind). with_cell indexes column cell so_far) is ∙ text_column indexes cell so_far (subst (λ (column : ColumnKind). IsOfKind column cell) is of)

  pub next_guid : k ≡ kind.Guid → with_cell indexes k cell so_far ≡ with_guid indexes.guids.now so_far
  next_guid is =
      ap (λ (column : ColumnKind). with_cell indexes column cell so_far) is ∙ guid_column indexes cell so_far (subst (λ (column : ColumnKind). IsOfKind column cell) is of)

  pub next_blob : k ≡ kind.Blob → with_cell indexes k cell so_far ≡ with_blob indexes.blobs.now so_far
  next_blob is =
      ap (λ (column : ColumnKind). with_cell indexes column cell so_far) is ∙ blob_column indexes cell so_far (subst (λ (column : ColumnKind). IsOfKind column cell) is of)

  pub next_signature : (column : SigKind) → k ≡ kind.Signature column → with_cell indexes k cell so_far ≡ with_blob indexes.blobs.now so_far
  next_signature column is =
      ap (λ (it : ColumnKind). with_cell indexes it cell so_far) is ∙ signature_column indexes column cell so_far (subst (λ (it : ColumnKind). IsOfKind it cell) is of)

-- ---- a cell in a column of another kind is in no heap

-- only a column of texts has a text
pub only_text : (k : ColumnKind) (text : List ℕ) → IsOfKind k (Text text) → k ≡ kind.Text
only_text kind.Text text of = refl
only_text _ text of = absurd of

only_guid : (k : ColumnKind) (guid : Option (List ℕ)) → IsOfKind k (Guid guid) → k ≡ kind.Guid
only_guid kind.Guid guid of = refl
only_guid _ guid of = absurd of

-- only a column of blobs has a blob
pub only_blob : (k : ColumnKind) (blob : List ℕ) → IsOfKind k (Bytes blob) → k ≡ kind.Blob
only_blob kind.Blob blob of = refl
only_blob _ blob of = absurd of

-- a column of neither texts, GUIDs, blobs nor signatures
pub record IsPlainKind (k : ColumnKind) : Type 0 where
  pub text : k ≡ kind.Text → ⊥
  pub guid : k ≡ kind.Guid → ⊥
  pub blob : k ≡ kind.Blob → ⊥
  pub signature : (column : SigKind) → k ≡ kind.Signature column → ⊥

no_sig : (k : ColumnKind) (signature : Body) → ((column : SigKind) → k ≡ kind.Signature column → ⊥) → IsOfKind k (Sig signature) → ⊥
no_sig (kind.Signature column) signature other of = other column refl
no_sig _ signature other of = of

pub plain_cell : (k : ColumnKind) (cell : Cell) → IsPlainKind k → IsOfKind k cell → IsInNoHeap cell
plain_cell k (Text text) plain of = absurd (plain.text (only_text k text of))
plain_cell k (Bytes blob) plain of = absurd (plain.blob (only_blob k blob of))
plain_cell k (Guid guid) plain of = absurd (plain.guid (only_guid k guid of))
plain_cell k (Sig signature) plain of = absurd (no_sig k signature plain.signature of)
plain_cell k _ plain of = tt

-- such a cell has its own number, and no value in a heap
pub next_plain : (indexes : Indexes) (k : ColumnKind) (cell : Cell) (so_far : SoFar) → IsInNoHeap cell
    → with_cell indexes k cell so_far ≡ with_number so_far (cell_number no_pools k cell)
next_plain indexes k (Number number) so_far none = refl
next_plain indexes k (Ref reference) so_far none = refl
next_plain indexes k (Start start) so_far none = refl
next_plain indexes k _ so_far none = absurd none

pub record HasNone (cell : Cell) : Type 0 where
  pub texts : texts_of cell ≡ []
  pub guids : guid_of cell ≡ []
  pub blobs : blobs_of cell ≡ []

pub has_none : (cell : Cell) → IsInNoHeap cell → HasNone cell
has_none (Number number) none = record { texts = refl; guids = refl; blobs = refl }
has_none (Ref reference) none = record { texts = refl; guids = refl; blobs = refl }
has_none (Start start) none = record { texts = refl; guids = refl; blobs = refl }
has_none _ none = absurd none

-- ---- the cell that a value in place stands for

-- only a column of signatures has the blob of one
pub no_signature : (k : ColumnKind) (blob : List ℕ) (cell : Cell) → ((encoded : SigKind) → k ≡ kind.Signature encoded → ⊥) → ShowsSignature k blob cell → ⊥
no_signature (kind.Signature encoded) blob cell other shown = other encoded refl
no_signature _ blob cell other shown = shown

pub sig_of : (k : ColumnKind) (blob : List ℕ) (cell : Cell) → ShowsSignature k blob cell → IsInNoHeap cell → ⊥
sig_of (kind.Signature encoded) blob cell shown none = subst IsInNoHeap shown.2 none
sig_of _ blob cell shown none = shown

-- a value that is neither a text, a GUID nor a blob, in a column that is not one of signatures
pub record IsNoValue (value : CellRef) : Type 0 where
  pub text : (text : Bor (List ℕ)) → value ≡ seen.Text text → ⊥
  pub guid : (guid : Option (List ℕ)) → value ≡ seen.Guid guid → ⊥
  pub blob : (blob : Bor (List ℕ)) → value ≡ seen.Bytes blob → ⊥

pub no_value : (k : ColumnKind) (value : CellRef) (cell : Cell) → ((encoded : SigKind) → k ≡ kind.Signature encoded → ⊥) → IsNoValue value → Shows k value cell → IsInNoHeap cell
no_value k (seen.Text text) cell column other shown = absurd (other.text text refl)
no_value k (seen.Bytes blob) cell column other shown = absurd (other.blob blob refl)
no_value k (seen.Guid guid) cell column other shown = absurd (other.guid guid refl)
no_value k (seen.Sig blob) cell column other shown = absurd (no_signature k blob.now cell column shown)
no_value k _ cell column other shown = subst IsInNoHeap (sym shown) tt

-- a cell in a column of texts has no GUID and no blob
pub record IsOnlyText (cell : Cell) : Type 0 where
  pub guids : guid_of cell ≡ []
  pub blobs : blobs_of cell ≡ []

pub text_alone : (cell : Cell) → IsOfKind kind.Text cell → IsOnlyText cell
text_alone (Text text) of = record { guids = refl; blobs = refl }
text_alone cell of = absurd of

-- a signature is neither a text nor a GUID
pub record IsNoText (cell : Cell) : Type 0 where
  pub texts : texts_of cell ≡ []
  pub guids : guid_of cell ≡ []
