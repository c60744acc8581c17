use Rattle.custom_attributes.proofs.Prelude.{◌∙◌, List, ap, subst, sym, ColumnKind, Item, Cell, cell_in, kind_at, ShowsSignature, items_in, params_in}
use Rattle.custom_attributes.proofs.TypeLemmas.{no_signature}
use Rattle.custom_attributes.proofs.signatures.params_in_cell.Goals as goal

pub returns-in-Sig : goal.returns-in-Sig
returns-in-Sig g c = λ model is.
    let cell = cell_in model c.args.table c.args.row c.args.cell in
    let shows = subst (λ (k : ColumnKind). ShowsSignature k c.in-Sig.blob.now cell) c.requires.kind (c.in-Sig.ensures.cell model (c.view.ensures.shown model is)) in
    c.params_in_blob.ensures model is shows.0 shows.1 ∙ ap (λ (v : Cell). params_in model (items_in v)) (sym shows.2)

pub returns-in_default : goal.returns-in_default
returns-in_default g c = λ model is.
    sym (ap (λ (items : List Item). params_in model items)
    (no_signature (kind_at c.args.table c.args.cell) c.cell.result (cell_in model c.args.table c.args.row c.args.cell) c.in_default.not-Sig (c.cell.ensures.cell model (c.view.ensures.shown model is))))
