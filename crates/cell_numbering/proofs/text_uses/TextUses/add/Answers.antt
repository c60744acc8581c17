use Rattle.cell_numbering.proofs.Prelude.{ℕ, List, [], ◌∷◌, ◌++◌, sym, ap, subst, ◌∙◌, arith, Bor, map_push, bytes_of, HasRow, cell_in, kind_at, CellId, Shows, CellRef, texts_of}
use Rattle.cell_numbering.specs.declared.text_uses.TextUses.{TextUses}
use Rattle.cell_numbering.specs.declared.text_uses.TextUses.TheVariants.{Indexed, Read}
use Rattle.cell_numbering.specs.TextUses.{AreTextUses}
use Rattle.cell_numbering.proofs.TextLemmas.{one_more}
use Rattle.cell_numbering.proofs.text_uses.TextUses.add.Goals as goal

pub returns-in_ok-push-in-Indexed : goal.returns-in_ok-push-in-Indexed
returns-in_ok-push-in-Indexed g c = λ model is texts are.
    let table = c.args.table in
    let row = c.args.row in
    let index_of = g.S.ReadCells.heap_index c.args.source.now in
    let id : CellId = record { table = table; row = row; cell_index = c.args.cell_index } in
    let there : HasRow model table row = (c.requires.first, omega (arith, c.holds_one.ensures.rows model is table, c.requires.last)) in
    let indexes = c.in-Indexed.indexes.items in
    let before : AreTextUses index_of model (Indexed c.in-Indexed.field-0 c.in-Indexed.indexes) texts =
    subst (λ (uses : TextUses). AreTextUses index_of model uses texts) c.in-Indexed.is are in
    record {
      heap = before.heap;
      texts = one_more c.texts_are_at.ensures.text index_of model c.in-Indexed.field-0.now indexes c.push.new.self.items texts id c.args.index before.heap before.texts
          (there, c.requires.cell_index) c.requires.kind c.requires.index
          (c.in_ok-push-in-Indexed.ensures.items ∙ ap (λ n. indexes ++ n ∷ []) c.unwrap_or.ensures);
    }

pub returns-in_ok-push-in-Text : goal.returns-in_ok-push-in-Text
returns-in_ok-push-in-Text g c = λ model is texts are.
    let cell = cell_in model c.args.table c.args.row c.args.cell_index in
    let P : CellRef → Type 0 = λ value. Shows (kind_at c.args.table c.args.cell_index) value cell in
    let text = subst P c.in-Text.is (c.cell.ensures model is) in
    let index_of = g.S.ReadCells.heap_index c.args.source.now in
    let before : AreTextUses index_of model (Read c.in-Read.texts) texts = subst (λ (uses : TextUses). AreTextUses index_of model uses texts) c.in-Read.is are in
    record {
      heap = tt;
      texts = ap bytes_of c.in_ok-push-in-Text.ensures.items ∙ map_push (λ (t : Bor (List ℕ)). t.now) c.in-Read.texts.items c.in-Text.text
          ∙ ap (λ list. list ++ c.in-Text.text.now ∷ []) before.texts ∙ sym (ap (λ it. texts ++ texts_of it) text);
    }
