use Rattle.comparison.proofs.Prelude.{◌∙◌, ap, sym, Source}
use Rattle.comparison.proofs.TextLemmas.{any_noted}
use Rattle.comparison.proofs.same_in_row.noted_of_texts.Goals as goal

pub returns : goal.returns
returns c =
    let texts = λ (s : Source). s.texts in
    any_noted c.cells_are_tested.ensures c.models_are_read.ensures.cells c.texts_are_at.ensures.text c.args.cell.table c.args.left.now c.args.right.now
    c.texts-left_heap.result.now c.texts-right_heap.result.now c.args.cell.index c.same_texts.result c.requires (sym c.kind_of.ensures ∙ c.in_ok-len.ensures)
    (c.texts-left_heap.ensures ∙ ap texts c.source.ensures.source) (c.texts-right_heap.ensures ∙ ap texts c.source-2.ensures.source) c.same_texts.ensures.same c.same_texts.ensures.texts
