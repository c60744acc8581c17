use Rattle.opening.proofs.Prelude.{◌≤◌, subst, arith, not_there, ColumnKind, count_in, cell_in, kind_at, Shows, CellRef, row_count}
use Rattle.opening.proofs.SignatureLemmas.{signature_seen}
use Rattle.opening.proofs.metadata_held.ViewReadCells.signature.Goals as goal

pub unreachable-requires : goal.unreachable-requires
unfolding row_count
unreachable-requires c = not_there c.root-root.ensures.model (λ some.
    let table = c.args.table in
    let row = c.args.row in
    let cell = c.args.cell in
    let root = c.args.self.now in
    let last : row ≤ count_in some.0 table = omega (arith, c.models_are_read.ensures.count root some.0 some.1 table, c.requires.last) in
    let valid = (c.models_of_roots_are_valid.ensures root some.0 some.1).cells table row cell (c.requires.first, last) c.requires.cell in
    signature_seen c.args._kind (kind_at table cell) c.cell.result (cell_in some.0 table row cell) c.in_default.not-Sig c.requires.kind valid.of_kind
    (c.cell.ensures.cell some.0 some.1))

pub returns : goal.returns
returns c = λ model is.
    let P : ColumnKind → Type 0 = λ k. Shows k (CellRef.Sig c.in-Sig.blob) (cell_in model c.args.table c.args.row c.args.cell) in
    subst P c.requires.kind (c.in-Sig.ensures.cell model is)
