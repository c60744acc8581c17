use Rattle.cell_numbering.proofs.Prelude.{refl, sym, subst, ◌∙◌, arith, flat_map, on_ok_weaker, ColumnKind, IsOfKind, cell_in, HasRow, kind_at, texts_of}
use Rattle.cell_numbering.proofs.KindLemmas.{IsPlainKind, has_none, plain_cell, text_alone}
use Rattle.cell_numbering.proofs.UseLemmas.{added_text, unchanged}
use Rattle.cell_numbering.proofs.heap_uses.add_cell.Goals as goal

pub returns-in_default : goal.returns-in_default
returns-in_default g c = λ model is cells are.
    let table = c.args.table in
    let row = c.args.row in
    let cell_index = c.args.cell_index in
    let cell = cell_in model table row cell_index in
    let there : HasRow model table row = (c.requires.first, omega (arith, c.holds_one.ensures.rows model is table, c.requires.last)) in
    let good = (c.holds_one.ensures.valid model is).cells table row cell_index there c.requires.cell_index in
    let kind = c.kind_of-kind.ensures in
    let plain : IsPlainKind (kind_at table cell_index) = record {
      text = λ e. c.in_default.not-Text (kind ∙ e);
      guid = λ e. c.in_default.not-Guid (kind ∙ e);
      blob = λ e. c.in_default.not-Blob (kind ∙ e);
      signature = λ column e. c.in_default.not-Signature column (kind ∙ e);
    } in
    let none = has_none cell (plain_cell (kind_at table cell_index) cell plain good.of_kind) in
    unchanged (g.S.ReadCells.heap_index c.args.source.now) model c.args.uses.now cells cell are none.texts none.guids none.blobs

pub returns-in-Text : goal.returns-in-Text
returns-in-Text g c = λ model is cells are.
    let table = c.args.table in
    let row = c.args.row in
    let cell_index = c.args.cell_index in
    let cell = cell_in model table row cell_index in
    let index_of = g.S.ReadCells.heap_index c.args.source.now in
    let there : HasRow model table row = (c.requires.first, omega (arith, c.holds_one.ensures.rows model is table, c.requires.last)) in
    let good = (c.holds_one.ensures.valid model is).cells table row cell_index there c.requires.cell_index in
    let column = sym c.kind_of-kind.ensures ∙ c.in-Text.is in
    let none = text_alone cell (subst (λ (k : ColumnKind). IsOfKind k cell) column good.of_kind) in
    on_ok_weaker c.add.result
    (λ texts. added_text index_of model c.args.uses.now _ cells cell are texts none.guids none.blobs refl refl)
    (c.add.ensures model is (flat_map texts_of cells) are.texts)
