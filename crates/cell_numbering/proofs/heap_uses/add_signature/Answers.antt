use Rattle.cell_numbering.proofs.Prelude.{refl, arith, HasRow, CellId}
use Rattle.table_schema.specs.declared.column.ColumnKind.TheVariants.{Signature}
use Rattle.cell_numbering.proofs.UseLemmas.{added_known, added_use, signature_use}
use Rattle.cell_numbering.proofs.heap_uses.add_signature.Goals as goal

pub returns-in-Some : goal.returns-in-Some
returns-in-Some g c = λ model is cells are.
    let table = c.args.table in
    let row = c.args.row in
    let cell_index = c.args.cell_index in
    let index_of = g.S.ReadCells.heap_index c.args.source.now in
    let id : CellId = record { table = table; row = row; cell_index = cell_index } in
    let there : HasRow model table row = (c.requires.first, omega (arith, c.holds_one.ensures.rows model is table, c.requires.last)) in
    added_known index_of model c.args.uses.now _ cells id are (c.shared_blobs_are_one.ensures model is) c.in-Some.known (Signature c.args.encoded) c.args.index
    (there, c.requires.cell_index) c.requires.kind c.requires.index c.in-Some.ensures.0 c.in-Some.ensures.1
    refl refl c.in_ok-add_known.ensures.kept c.in_ok-add_known.ensures.of_use

pub returns : goal.returns
returns g c = λ model is cells are.
    let table = c.args.table in
    let row = c.args.row in
    let cell_index = c.args.cell_index in
    let index_of = g.S.ReadCells.heap_index c.args.source.now in
    let id : CellId = record { table = table; row = row; cell_index = cell_index } in
    let there : HasRow model table row = (c.requires.first, omega (arith, c.holds_one.ensures.rows model is table, c.requires.last)) in
    let valid = c.holds_one.ensures.valid model is in
    let can = c.cells_can_be_numbered.ensures.cell model valid table row cell_index there c.requires.cell_index in
    added_use index_of model c.args.uses.now _ cells id are _
    (signature_use index_of model id c.args.index (there, c.requires.cell_index) can c.requires.index c.args.encoded c.in_ok-bytes.bytes c.requires.kind (c.in_ok-bytes.ensures model is))
    refl refl c.in_ok-add.ensures.kept c.in_ok-add.ensures.of_use
