use Rattle.clim_c.proofs.Prelude.{rules, ◌≡◌, column_at, column_of, cell_in, row_count}
use Rattle.table_schema.specs.declared.column.ColumnKind.TheVariants.{Signature}
use Rattle.clim_c.proofs.SignatureLemmas.{no_other_value}
use Rattle.clim_c.proofs.texts.signature_at.Goals as goal

pub returns-in-Sig-clause-shown : goal.returns-in-Sig-clause-shown
returns-in-Sig-clause-shown c = λ model is.
    let kind : (column_at c.args.table (column_of c.args.table c.args.column)).kind ≡ Signature c.in-Signature.kind = search rules in
    rw kind at (c.in-Sig.ensures.cell model is)

pub returns-in_default-cell : goal.returns-in_default-cell
unfolding row_count
returns-in_default-cell c = record {
  kind = tt;
  shown = λ model is. tt;
  none = λ model is sig_kind same.
      let stands = rw same at (c.models_are_read.ensures.cells c.args.seen.now model is c.args.table c.args.row c.args.column c.requires.first c.requires.last c.requires.column) in
      no_other_value _ stands.1 c.cell.result (cell_in model c.args.table c.args.row c.args.column) stands.5 (c.cell.ensures.cell model is) c.in_default-cell.not-Sig;
}
