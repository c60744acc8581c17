-- The texts that cells use, one by one.
use Rattle.cell_numbering.proofs.Prelude.{◌≡◌, ℕ, List, [], ◌∷◌, ◌++◌, Option, Some, sym, ap, ◌∙◌, unwrap_or, map_push, IsText, heap_text, texts_at, Metadata, CellId, HasCell, cell_by_id, kind_by_id, texts_of}
use Rattle.table_schema.specs.declared.column.ColumnKind.TheVariants as kind
use Rattle.metadata_source.specs.HeapCells.{AreTextsIn}

abbrev pub ReadsTexts : Type 0
ReadsTexts = (heap : List ℕ) (index : ℕ) (text : List ℕ) → IsText heap index text → heap_text heap index ≡ text

some_is : (index : Option ℕ) (at : ℕ) → index ≡ Some at → unwrap_or index 0 ≡ at
some_is index at is = ap (λ it. unwrap_or it 0) is

-- the text of one more cell, by its index
pub one_more : ReadsTexts → (index_of : CellId → Option ℕ) (model : Metadata) (heap before after : List ℕ) (texts : List (List ℕ)) (id : CellId) (index : Option ℕ)
    → AreTextsIn index_of heap model → texts_at heap before ≡ texts → HasCell model id → kind_by_id id ≡ kind.Text → index ≡ index_of id
    → after ≡ before ++ unwrap_or index 0 ∷ [] → texts_at heap after ≡ texts ++ texts_of (cell_by_id model id)
one_more reads index_of model heap before after texts id index all so_far here column at is =
    let stands = all id here column in
    let text : heap_text heap (unwrap_or index 0) ≡ stands.content =
    ap (heap_text heap) (some_is index stands.index (at ∙ stands.at)) ∙ reads heap stands.index stands.content stands.stands in
    ap (texts_at heap) is ∙ map_push (heap_text heap) before (unwrap_or index 0)
    ∙ ap (λ list. list ++ heap_text heap (unwrap_or index 0) ∷ []) so_far ∙ ap (λ it. texts ++ it ∷ []) text ∙ sym (ap (λ it. texts ++ texts_of it) stands.is)
