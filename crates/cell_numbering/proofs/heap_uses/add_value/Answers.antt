use Rattle.cell_numbering.proofs.Prelude.{◌≡◌, ℕ, List, refl, sym, subst, ◌∙◌, arith, Bor, ColumnKind, Cell, IsOfKind, cell_in, HasRow, kind_at, Shows, CellRef, CellId}
use Rattle.reading.specs.declared.cell_ref.CellRef.TheVariants as seen
use Rattle.cell_numbering.proofs.KindLemmas.{has_none, no_value, only_blob, only_text}
use Rattle.cell_numbering.proofs.UseLemmas.{added_guid, added_known, added_use, blob_use, unchanged}
use Rattle.cell_numbering.proofs.heap_uses.add_value.Goals as goal

pub returns-in_ok-push-in-Guid : goal.returns-in_ok-push-in-Guid
returns-in_ok-push-in-Guid g c = λ model is cells are.
    let cell = cell_in model c.args.table c.args.row c.args.cell_index in
    let P : CellRef → Type 0 = λ value. Shows (kind_at c.args.table c.args.cell_index) value cell in
    added_guid (g.S.ReadCells.heap_index c.args.source.now) model c.args.uses.now _ cells cell are c.in-Guid.guid (subst P c.in-Guid.is (c.cell.ensures model is))
    refl c.in_ok-push-in-Guid.ensures.items refl

pub returns-in-Some : goal.returns-in-Some
returns-in-Some g c = λ model is cells are.
    let table = c.args.table in
    let row = c.args.row in
    let cell_index = c.args.cell_index in
    let index_of = g.S.ReadCells.heap_index c.args.source.now in
    let id : CellId = record { table = table; row = row; cell_index = cell_index } in
    let there : HasRow model table row = (c.requires.first, omega (arith, c.holds_one.ensures.rows model is table, c.requires.last)) in
    added_known index_of model c.args.uses.now _ cells id are (c.shared_blobs_are_one.ensures model is) c.in-Some.known c.args.kind c.args.index
    (there, c.requires.cell_index) (sym c.requires.kind) c.requires.index c.in-Some.ensures.0 c.in-Some.ensures.1
    refl refl c.in_ok-add_known.ensures.kept c.in_ok-add_known.ensures.of_use

pub returns-in_ok-add-in-Bytes : goal.returns-in_ok-add-in-Bytes
returns-in_ok-add-in-Bytes g c = λ model is cells are.
    let table = c.args.table in
    let row = c.args.row in
    let cell_index = c.args.cell_index in
    let index_of = g.S.ReadCells.heap_index c.args.source.now in
    let id : CellId = record { table = table; row = row; cell_index = cell_index } in
    let there : HasRow model table row = (c.requires.first, omega (arith, c.holds_one.ensures.rows model is table, c.requires.last)) in
    let cell = cell_in model table row cell_index in
    let valid = c.holds_one.ensures.valid model is in
    let can = c.cells_can_be_numbered.ensures.cell model valid table row cell_index there c.requires.cell_index in
    let good = valid.cells table row cell_index there c.requires.cell_index in
    let P : CellRef → Type 0 = λ value. Shows (kind_at table cell_index) value cell in
    let has = subst P c.in-Bytes.is (c.cell.ensures model is) in
    let Q : Cell → Type 0 = λ it. IsOfKind (kind_at table cell_index) it in
    let blob = only_blob (kind_at table cell_index) c.in-Bytes.blob.now (subst Q has good.of_kind) in
    added_use index_of model c.args.uses.now _ cells id are _
    (blob_use index_of model id c.args.index (there, c.requires.cell_index) can c.requires.index c.args.kind c.in-Bytes.blob (sym c.requires.kind) (c.requires.kind ∙ blob) has)
    refl refl c.in_ok-add-in-Bytes.ensures.kept c.in_ok-add-in-Bytes.ensures.of_use

pub returns-in_default-cell : goal.returns-in_default-cell
returns-in_default-cell g c = λ model is cells are.
    let table = c.args.table in
    let row = c.args.row in
    let cell_index = c.args.cell_index in
    let cell = cell_in model table row cell_index in
    let there : HasRow model table row = (c.requires.first, omega (arith, c.holds_one.ensures.rows model is table, c.requires.last)) in
    let good = (c.holds_one.ensures.valid model is).cells table row cell_index there c.requires.cell_index in
    let shown = c.cell.ensures model is in
    let P : CellRef → Type 0 = λ value. Shows (kind_at table cell_index) value cell in
    let Q : Cell → Type 0 = λ it. IsOfKind (kind_at table cell_index) it in
    let no_text : (text : Bor (List ℕ)) → c.cell.result ≡ seen.Text text → ⊥ = λ text e.
    c.requires.no_text (c.requires.kind ∙ only_text (kind_at table cell_index) text.now (subst Q (subst P e shown) good.of_kind)) in
    let R : ColumnKind → Type 0 = λ k. Shows k c.cell.result cell in
    let none = has_none cell (no_value c.args.kind c.cell.result cell c.requires.other (record { text = no_text; guid = c.in_default-cell.not-Guid; blob = c.in_default-cell.not-Bytes })
    (subst R (sym c.requires.kind) shown)) in
    unchanged (g.S.ReadCells.heap_index c.args.source.now) model c.args.uses.now cells cell are none.texts none.guids none.blobs
