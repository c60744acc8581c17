use Rattle.cli_declarations.proofs.Prelude.{string_bytes, ◌≡◌, Bor, List, [], ℕ, refl, sym, append-nil, cell_columns, ColumnKind, Cell, Metadata, cell_in, Field, Shows, IsSignatureOf}
use Rattle.reading.specs.declared.cell_ref.CellRef.{CellRef}
use Rattle.reading.specs.declared.cell_ref.CellRef.TheVariants as seen
use Rattle.cli_declarations.proofs.PieceLemmas.{some_gained}
use Rattle.cli_declarations.proofs.blob_sink.push_signature.Goals as goal

no_signature : (model : Metadata) (kind : ColumnKind) (value : CellRef) (cell : Cell) → Shows kind value cell → ((blob : Bor (List ℕ)) → value ≡ seen.Sig blob → ⊥)
    → IsSignatureOf model cell []
no_signature model kind (seen.Sig blob) cell shows not = absurd (not blob refl)
no_signature model kind _ cell shows not = rw shows refl

pub returns-in_default : goal.returns-in_default
returns-in_default c = λ model is.
    let cell = cell_in model Field c.args.row 2 in
    ([], no_signature model _ c.cell.result cell (c.cell.ensures.cell model is) c.in_default.not-Sig, sym (append-nil (string_bytes c.args.declared.now.text)))

pub returns : goal.returns
unfolding cell_columns
returns c = λ model is.
    let shows = c.in-Sig.ensures.cell model is in
    rw shows.2 (some_gained c.args.declared.now c.begin_text.new.declared c.write_signature_text-written.new.out c.end_text.new.declared c.write_signature_text-written.result c.end_text.result c.begin_text.ensures c.end_text.ensures _ (c.write_signature_text-written.ensures model is shows.0 shows.1))
