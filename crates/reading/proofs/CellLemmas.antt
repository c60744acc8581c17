-- The cell that a number stands for, by the kind of its column.
use Rattle.std.proofs.Common.{◌≡◌, ◌↔◌, ℕ, Bool, IsTrue, List, sym, ◌∙◌, ap, subst}
use Rattle.reading.proofs.Prelude.{TableId, Token, Coded, SigKind, ColumnKind, IsCoded, IsText, IsBlob, Cell, Text, Bytes, Start, Sig, Source, StandsFor, Refers, HasRows}
use Rattle.table_schema.specs.declared.column.ColumnKind.TheVariants as kind
use Rattle.sig_grammar.specs.Syntax.{Body}
use Rattle.sig_grammar.specs.Encodes.{Encodes}

module _ (source : Source) (column : ColumnKind) (nullable : Bool) (start : TableId → ℕ) (number : ℕ) (cell : Cell) where
  as_kind : (other : ColumnKind) → column ≡ other → StandsFor source column nullable start number cell → StandsFor source other nullable start number cell
  as_kind other is stands = let P : ColumnKind → Type 0 = λ k. StandsFor source k nullable start number cell in subst P is stands

  pub list_cell : (member : TableId) → column ≡ kind.List member → StandsFor source column nullable start number cell → cell ≡ Start (start member)
  list_cell member is stands = (as_kind (kind.List member) is stands).1

  pub text_cell : column ≡ kind.Text → StandsFor source column nullable start number cell → (text : List ℕ) × IsText source.texts number text ×
      (cell ≡ Text text)
  text_cell is stands = as_kind kind.Text is stands

  pub blob_cell : column ≡ kind.Blob → StandsFor source column nullable start number cell → (blob : List ℕ) × IsBlob source.blobs number blob ×
      (cell ≡ Bytes blob)
  blob_cell is stands = as_kind kind.Blob is stands

  pub signature_cell : (encoded : SigKind) → column ≡ kind.Signature encoded → StandsFor source column nullable start number cell
      → (blob : List ℕ) × (signature : Body) × IsBlob source.blobs number blob × Encodes encoded signature blob × HasRows source signature ×
      (cell ≡ Sig signature)
  signature_cell encoded is stands = as_kind (kind.Signature encoded) is stands

  pub coded_cell : (coded : Coded) → column ≡ kind.Coded coded → StandsFor source column nullable start number cell
      → (token : Token) × IsCoded coded number token.table token.row × Refers source nullable token cell
  coded_cell coded is stands = as_kind (kind.Coded coded) is stands

-- a cell that is one text is another if and only if they are the same
pub same_text : (cell : Cell) (text sought : List ℕ) (same : Bool) → cell ≡ Text text → IsTrue same ↔ (text ≡ sought) → IsTrue same ↔ (cell ≡ Text sought)
same_text cell text sought same is reported = (
  (λ t. is ∙ ap Text (reported.0 t)),
  (λ e. reported.1 (let f : Text text ≡ Text sought = sym is ∙ e in cc)),
)
