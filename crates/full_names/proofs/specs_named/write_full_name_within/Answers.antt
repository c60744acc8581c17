use Rattle.full_names.proofs.Prelude.{subst, arith, TableId, TypeSpec, cell_columns, HasRow, cell_in}
use Rattle.table_schema.specs.declared.column.SigKind.TheVariants as kind
use Rattle.full_names.proofs.PieceLemmas.{signature_of, spec_name}
use Rattle.full_names.proofs.specs_named.write_full_name_within.Goals as goal

pub returns-in-TypeSpec-clause-name : goal.returns-in-TypeSpec-clause-name
unfolding cell_columns
returns-in-TypeSpec-clause-name g c = λ model shown.
    let token = c.args.token in
    let rows = c.holds_one.ensures.rows model shown token.table in
    let there : HasRow model token.table token.row = (omega (arith, c.if-token-eq0.false), omega (arith, c.count.ensures.rows, c.if-token-count.false, rows)) in
    let at : HasRow model TypeSpec token.row = subst (λ (t : TableId). HasRow model t token.row) c.in-TypeSpec.is there in
    let own = signature_of kind.TypeSpec (cell_in model TypeSpec token.row 0) ((c.holds_one.ensures.valid model shown).cells TypeSpec token.row 0 at (omega arith)).of_kind in
    spec_name g.W.Write.write_str_gives g.L.Limit.scopes model token own.0 c.args.out.now c.write_type_spec.new.out c.write_type_spec.result c.in-TypeSpec.is there own.1 (c.write_type_spec.ensures model shown own.0 own.1)
