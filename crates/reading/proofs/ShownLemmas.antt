-- The cell that a value in place stands for, if the number of its column stands for one.
use Rattle.std.proofs.Common.{◌≡◌, ℕ, ◌≤◌, Bool, List, Option, Some, None, sym, ◌∙◌, ap, subst, inl, inr}
use Rattle.reading.proofs.Prelude.{TableId, Token, Coded, SigKind, ColumnKind, column_at, IsCoded, IsText, IsBlob, Cell, Text, Bytes, Ref, Source, number_of, start_of, Refers}
use Rattle.table_schema.specs.declared.column.ColumnKind.TheVariants as kind
use Rattle.metadata.specs.Rows.{StandsIn}
use Rattle.reading.specs.Shown.{ShowsSignature}
use Rattle.reading.proofs.CellLemmas.{text_cell, blob_cell, signature_cell, coded_cell}

abbrev pub Stands : Source → TableId → ℕ → ℕ → Type 0
Stands source table row column = ¬ (¬ ((cell : Cell) × StandsIn source table row column cell))

-- a reference is null or a row, and so is its cell
pub refers_shown : (source : Source) (nullable : Bool) (token : Token) (cell : Cell) (result : Option Token) → Refers source nullable token cell
    → (token.row ≡ 0 → result ≡ None) → (1 ≤ token.row → result ≡ Some token) → cell ≡ Ref result
refers_shown source nullable token cell result (inl null) none there = null.2 ∙ ap Ref (sym (none null.0))
refers_shown source nullable token cell result (inr some) none there = some.1 ∙ ap Ref (sym (there some.0.0))

module _ (source : Source) (table : TableId) (row column : ℕ) (number : ℕ) (heap : List ℕ) (is_number : number ≡ number_of source table row column) where
  text_of : heap ≡ source.texts → (column_at table column).kind ≡ kind.Text → (cell : Cell) → StandsIn source table row column cell
      → (text : List ℕ) × IsText heap number text × (cell ≡ Text text)
  text_of is_heap is_kind cell stands =
      let t = text_cell source (column_at table column).kind (column_at table column).nullable (start_of source table row column)
      (number_of source table row column) cell is_kind stands in
      (t.0, rw (is_heap, is_number) (t.1), t.2)

  pub text_there : heap ≡ source.texts → (column_at table column).kind ≡ kind.Text → Stands source table row column
      → ¬ (¬ ((text : List ℕ) × IsText heap number text))
  text_there is_heap is_kind stands = λ none. stands (λ some. let t = text_of is_heap is_kind some.0 some.1 in none (t.0, t.1))

  pub text_shown : heap ≡ source.texts → (column_at table column).kind ≡ kind.Text → (result : List ℕ) → ((text : List ℕ) → IsText heap number text
      → result ≡ text) → (cell : Cell) → StandsIn source table row column cell → cell ≡ Text result
  text_shown is_heap is_kind result only cell stands = let t = text_of is_heap is_kind cell stands in t.2 ∙ ap Text (sym (only t.0 t.1))

  blob_of : heap ≡ source.blobs → (column_at table column).kind ≡ kind.Blob → (cell : Cell) → StandsIn source table row column cell
      → (blob : List ℕ) × IsBlob heap number blob × (cell ≡ Bytes blob)
  blob_of is_heap is_kind cell stands =
      let t = blob_cell source (column_at table column).kind (column_at table column).nullable (start_of source table row column)
      (number_of source table row column) cell is_kind stands in
      (t.0, rw (is_heap, is_number) (t.1), t.2)

  pub blob_there : heap ≡ source.blobs → (column_at table column).kind ≡ kind.Blob → Stands source table row column
      → ¬ (¬ ((blob : List ℕ) × IsBlob heap number blob))
  blob_there is_heap is_kind stands = λ none. stands (λ some. let t = blob_of is_heap is_kind some.0 some.1 in none (t.0, t.1))

  pub blob_shown : heap ≡ source.blobs → (column_at table column).kind ≡ kind.Blob → (result : List ℕ) → ((blob : List ℕ) → IsBlob heap number blob
      → result ≡ blob) → (cell : Cell) → StandsIn source table row column cell → cell ≡ Bytes result
  blob_shown is_heap is_kind result only cell stands = let t = blob_of is_heap is_kind cell stands in t.2 ∙ ap Bytes (sym (only t.0 t.1))

  module _ (encoded : SigKind) (is_heap : heap ≡ source.blobs) (is_kind : (column_at table column).kind ≡ kind.Signature encoded) where
    signature_of : (cell : Cell) → StandsIn source table row column cell → (blob : List ℕ) × IsBlob heap number blob × ShowsSignature
        (column_at table column).kind blob cell
    signature_of cell stands =
        let t = signature_cell source (column_at table column).kind (column_at table column).nullable (start_of source table row column)
        (number_of source table row column) cell encoded is_kind stands in
        let P : ColumnKind → Type 0 = λ k. ShowsSignature k t.0 cell in
        (t.0, rw (is_heap, is_number) (t.2), subst P (sym is_kind) (t.1, t.3, t.5))

    pub signature_there : Stands source table row column → ¬ (¬ ((blob : List ℕ) × IsBlob heap number blob))
    signature_there stands = λ none. stands (λ some. let t = signature_of some.0 some.1 in none (t.0, t.1))

    pub signature_shown : (result : List ℕ) → ((blob : List ℕ) → IsBlob heap number blob → result ≡ blob) → (cell : Cell)
        → StandsIn source table row column cell → ShowsSignature (column_at table column).kind result cell
    signature_shown result only cell stands =
        let t = signature_of cell stands in
        let P : List ℕ → Type 0 = λ blob. ShowsSignature (column_at table column).kind blob cell in
        subst P (sym (only t.0 t.1)) t.2

-- the row that a coded index names, or null
pub coded_shown : (source : Source) (table : TableId) (row column number : ℕ) (coded : Coded) → number ≡ number_of source table row column
    → (column_at table column).kind ≡ kind.Coded coded → (result : Option Token)
    → ((token : Token) → IsCoded coded number token.table token.row → token.row ≡ 0 → result ≡ None) → ((token : Token)
    → IsCoded coded number token.table token.row → 1 ≤ token.row → result ≡ Some token)
    → (cell : Cell) → StandsIn source table row column cell → cell ≡ Ref result
coded_shown source table row column number coded is_number is_kind result null there cell stands =
    let t = coded_cell source (column_at table column).kind (column_at table column).nullable (start_of source table row column)
    (number_of source table row column) cell coded is_kind stands in
    let is_coded : IsCoded coded number t.0.table t.0.row = rw is_number (t.1) in
    refers_shown source (column_at table column).nullable t.0 cell result t.2 (null t.0 is_coded) (there t.0 is_coded)
