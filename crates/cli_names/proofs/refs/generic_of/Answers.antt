use Rattle.cli_names.proofs.Prelude.{◌∙◌, ap, sym, generic_in}
use Rattle.table_schema.specs.CellColumns.{cell_columns}
use Rattle.cli_names.proofs.RefLemmas.{generic_read}
use Rattle.cli_names.proofs.refs.generic_of.Goals as goal

pub returns-in-Sig : goal.returns-in-Sig
unfolding cell_columns
returns-in-Sig c = λ model is.
    let shows = c.in-Sig.ensures.cell model is in
    c.generic_at.ensures ∙ generic_read c.numbers_are_read.ensures.unsigned_only c.indexes_are_read.ensures.complete shows.0 c.in-Sig.blob.now shows.1 ∙ ap generic_in (sym shows.2)
