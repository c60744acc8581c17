use Rattle.std.proofs.Common.{◌≡◌, ℕ, List, IsTrue, ◌↔◌, sym, ◌∙◌, ap, subst}
use Rattle.reading.proofs.Prelude.{IsText, column_at, column_of, cell_in, number_of, start_of}
use Rattle.reading.proofs.CellLemmas.{text_cell, same_text}
use Rattle.reading.proofs.text_tests.is_text_at.Goals as goal

pub returns : goal.returns
returns c = λ model read.
    let source = c.args.source.now.source in
    let column = column_of c.args.table c.args.cell in
    let is = text_cell source (column_at c.args.table column).kind (column_at c.args.table column).nullable (start_of source c.args.table c.args.row column)
    (number_of source c.args.table c.args.row column) (cell_in model c.args.table c.args.row c.args.cell) c.requires.kind
    (read.cells c.args.table c.args.row c.args.cell c.requires.first c.requires.last c.requires.cell) in
    let number = c.number-index.ensures.value ∙ ap (λ k. number_of source c.args.table c.args.row k) c.column_of_cell.ensures.value in
    let P : List ℕ → Type 0 = λ heap. IsText heap c.number-index.result is.0 in
    let Q : ℕ → Type 0 = λ index. IsText source.texts index is.0 in
    let there = subst P (sym c.texts.ensures) (subst Q (sym number) is.1) in
    let R : List ℕ → Type 0 = λ sought. IsTrue c.is_text.result ↔ (is.0 ≡ sought) in
    same_text (cell_in model c.args.table c.args.row c.args.cell) is.0 c.args.sought.now c.is_text.result is.2
    (subst R c.as_bytes.ensures.value (c.is_text.ensures is.0 there))
