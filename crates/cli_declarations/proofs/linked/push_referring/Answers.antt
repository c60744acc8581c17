use Rattle.cli_declarations.proofs.Prelude.{◌≡◌, ◌∙◌, ◌++◌, ℕ, List, OnOk, Result, ap, sym, TableId, Metadata, address_text, layout_text, marshal_text, offset_text, referring_text, value_text}
use Rattle.cli_declarations.proofs.PieceLemmas.{on_ok}
use Rattle.cli_declarations.proofs.linked.push_referring.Goals as goal

-- the text of a row of such a table is appended
referring : {T E : Type 0} (model : Metadata) (row : ℕ) {table of : TableId} (result : Result T E) (before after : List ℕ) {text : List ℕ} → table ≡ of → text ≡ referring_text model of row
    → OnOk result (after ≡ before ++ text) → OnOk result (after ≡ before ++ referring_text model table row)
referring model row result before after is same gained = on_ok result gained (λ e. e ∙ ap (λ t. before ++ t) (same ∙ ap (λ t. referring_text model t row) (sym is)))

pub returns-in-Constant : goal.returns-in-Constant
returns-in-Constant c = λ model is. referring model c.args.row c.push_value.result _ _ c.in-Constant.is (λ i. value_text (c.number_or_zero-code.ensures model is i) (c.bytes_or_empty-value.ensures model is i)) c.push_value.ensures

pub returns-in-ClassLayout : goal.returns-in-ClassLayout
returns-in-ClassLayout c = λ model is. referring model c.args.row c.push_layout.result _ _ c.in-ClassLayout.is (λ i. layout_text (c.number_or_zero-packing.ensures model is i) (c.number_or_zero-size.ensures model is i)) c.push_layout.ensures

pub returns-in-FieldLayout : goal.returns-in-FieldLayout
returns-in-FieldLayout c = λ model is. referring model c.args.row c.push_offset.result _ _ c.in-FieldLayout.is (ap offset_text (c.number_or_zero-offset.ensures model is)) c.push_offset.ensures

pub returns-in-FieldRVA : goal.returns-in-FieldRVA
returns-in-FieldRVA c = λ model is. referring model c.args.row c.push_address.result _ _ c.in-FieldRVA.is (ap address_text (c.number_or_zero-address.ensures model is)) c.push_address.ensures

pub returns-in-FieldMarshal : goal.returns-in-FieldMarshal
returns-in-FieldMarshal c = λ model is. referring model c.args.row c.push_marshal.result _ _ c.in-FieldMarshal.is (ap marshal_text (c.bytes_or_empty-blob.ensures model is)) c.push_marshal.ensures
