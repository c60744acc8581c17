use Rattle.std.proofs.Common.{sym, ◌∙◌}
use Rattle.reading.proofs.ShownLemmas.{text_there, text_shown, blob_there, blob_shown, signature_there, signature_shown, coded_shown}
use Rattle.reading.proofs.cell.cell_of_kind.Goals as goal

pub text_at-requires : goal.text_at-requires
text_at-requires c =
    text_there c.args.source.now.source c.args.table c.args.row c.args.column c.number-number.result c.strings.result.now c.number-number.ensures.value
    c.strings.ensures (sym c.requires.kind ∙ c.in-Text.is) c.requires.stands

pub returns-in-Text-clause-cell : goal.returns-in-Text-clause-cell
returns-in-Text-clause-cell c =
    text_shown c.args.source.now.source c.args.table c.args.row c.args.column c.number-number.result c.strings.result.now c.number-number.ensures.value
    c.strings.ensures (sym c.requires.kind ∙ c.in-Text.is) c.text_at.result.now c.text_at.ensures

pub blob_at-requires : goal.blob_at-requires
blob_at-requires c =
    blob_there c.args.source.now.source c.args.table c.args.row c.args.column c.number-number.result c.blobs.result.now c.number-number.ensures.value
    c.blobs.ensures (sym c.requires.kind ∙ c.in-Blob.is) c.requires.stands

pub returns-in-Blob-clause-cell : goal.returns-in-Blob-clause-cell
returns-in-Blob-clause-cell c =
    blob_shown c.args.source.now.source c.args.table c.args.row c.args.column c.number-number.result c.blobs.result.now c.number-number.ensures.value
    c.blobs.ensures (sym c.requires.kind ∙ c.in-Blob.is) c.blob_at.result.now c.blob_at.ensures.complete

pub blob_at-requires-in-Signature : goal.blob_at-requires-in-Signature
blob_at-requires-in-Signature c =
    signature_there c.args.source.now.source c.args.table c.args.row c.args.column c.number-number.result c.blobs-in-Signature.result.now
    c.number-number.ensures.value
    c.in-Signature.field-0 c.blobs-in-Signature.ensures (sym c.requires.kind ∙ c.in-Signature.is) c.requires.stands

pub returns-in-Signature-clause-cell : goal.returns-in-Signature-clause-cell
returns-in-Signature-clause-cell c =
    signature_shown c.args.source.now.source c.args.table c.args.row c.args.column c.number-number.result c.blobs-in-Signature.result.now
    c.number-number.ensures.value
    c.in-Signature.field-0 c.blobs-in-Signature.ensures (sym c.requires.kind
    ∙ c.in-Signature.is) c.blob_at-in-Signature.result.now c.blob_at-in-Signature.ensures.complete

pub returns-in-Coded-clause-cell : goal.returns-in-Coded-clause-cell
returns-in-Coded-clause-cell c =
    coded_shown c.args.source.now.source c.args.table c.args.row c.args.column c.number-number.result c.in-Coded.coded c.number-number.ensures.value
    (sym c.requires.kind ∙ c.in-Coded.is) c.coded_reference.result c.coded_reference.ensures.null
    c.coded_reference.ensures.there
