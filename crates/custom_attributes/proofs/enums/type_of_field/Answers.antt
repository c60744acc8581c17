use Rattle.custom_attributes.proofs.Prelude.{◌∙◌, ap, sym, Field, Cell, cell_in, kind_at, items_in, field_type}
use Rattle.table_schema.specs.CellColumns.{cell_columns}
use Rattle.custom_attributes.proofs.TypeLemmas.{no_signature}
use Rattle.custom_attributes.proofs.enums.type_of_field.Goals as goal

pub returns-in-Sig : goal.returns-in-Sig
unfolding cell_columns
returns-in-Sig c = λ model is.
    let shows = c.in-Sig.ensures.cell model is in
    c.type_in.ensures shows.0 shows.1 ∙ ap (λ (v : Cell). field_type (items_in v)) (sym shows.2)

pub returns-in_default : goal.returns-in_default
returns-in_default c = λ model is.
    sym (ap field_type (no_signature (kind_at Field 2) c.cell.result (cell_in model Field c.args.field 2) c.in_default.not-Sig (c.cell.ensures.cell model is)))
