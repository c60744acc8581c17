use Rattle.opening.proofs.Prelude.{ℕ, List, refl, sym, ap, subst, ◌∙◌, arith, column_of, IsText, Source, number_of, source_of, cell_by_id}
use Rattle.opening.proofs.SharedLemmas.{stands_as}
use Rattle.table_schema.specs.declared.column.ColumnKind.TheVariants.{Text}
use Rattle.opening.proofs.metadata_held.ViewReadCells.strings_heap.Goals as goal

pub returns : goal.returns
returns c = λ model is id here column.
    let root = c.args.self.now in
    let source = source_of root in
    let laws = c.models_are_read.ensures in
    let number = number_of source id.table id.row (column_of id.table id.cell_index) in
    let cell = laws.cells root model is id.table id.row id.cell_index here.0.0 (omega (arith, here.0.1, laws.count root model is id.table)) here.1 in
    let found = stands_as source id (cell_by_id model id) Text column cell in
    let heap = c.texts.ensures ∙ ap (λ (s : Source). s.texts) c.source.ensures.source in
    record { index = number; at = refl; content = found.0; stands = subst (λ (h : List ℕ). IsText h number found.0) (sym heap) found.1; is = found.2 }
