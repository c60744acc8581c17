use Rattle.owned_model.proofs.Prelude.{sym, subst, ap, ◌∙◌, IsOfKind, kind_at, said}
use Rattle.metadata.specs.Cell.{Cell}
use Rattle.owned_model.proofs.CellLemmas.{no_signature}
use Rattle.owned_model.proofs.metadata_held.ModelReadCells.cell.Goals as goal

pub unreachable-requires : goal.unreachable-requires
unreachable-requires c =
    let table = c.args.table in
    let cell = c.args.cell in
    let valid = c.tables-tables.ensures.valid.cells table c.args.row cell (c.requires.first, c.requires.last) c.requires.cell in
    let P : Cell → Type 0 = λ it. IsOfKind (kind_at table cell) it in
    no_signature (kind_at table cell) _ c.requires.kind (subst P (sym c.cell.ensures ∙ ap said c.in-Sig.is) valid.of_kind)
