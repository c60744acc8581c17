use Rattle.full_names.proofs.Prelude.{arith, refl, TypeSpec, cell_columns, Encodes, HasRow}
use Rattle.table_schema.specs.declared.column.SigKind.TheVariants as kind
use Rattle.full_names.proofs.NameExists.{inner_name}
use Rattle.full_names.proofs.PieceLemmas.{encoded_by}
use Rattle.full_names.proofs.specs_named.write_type_spec.Goals as goal

pub returns : goal.returns
unfolding cell_columns
returns g c = λ model shown signature is.
    let rows = c.holds_one.ensures.rows model shown TypeSpec in
    let there : HasRow model TypeSpec c.args.row = (c.requires.first, omega (arith, rows, c.requires.last)) in
    let bytes : Encodes kind.TypeSpec signature c.bytes_of.result.now = rw c.bytes_of.ensures
    (encoded_by model (c.holds_one.ensures.valid model shown) kind.TypeSpec (c.shortest_encodes.ensures kind.TypeSpec) TypeSpec c.args.row 0 there (omega arith) refl c.in_ok-bytes.bytes (c.in_ok-bytes.ensures model shown) signature is) in
    c.write_signature.ensures model shown (inner_name model (c.holds_one.ensures.valid model shown) g.L.Limit.scopes) signature bytes
