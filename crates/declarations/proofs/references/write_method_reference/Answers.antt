use Rattle.declarations.proofs.Prelude.{arith, refl, inl, MethodDef, cell_columns, Encodes, HasRow, cell_in, IsReferenceBy, encoded_by, on_wrote, signature_of}
use Rattle.table_schema.specs.declared.column.SigKind.TheVariants as kind
use Rattle.declarations.proofs.ClassNames.{type_named}
use Rattle.declarations.proofs.references.write_method_reference.Goals as goal

pub returns : goal.returns
unfolding cell_columns
returns g c = λ model shown.
    let rows = c.holds_one.ensures.rows model shown MethodDef in
    let there : HasRow model MethodDef c.args.row = (c.requires.first, omega (arith, rows, c.requires.last)) in
    let cell = (c.holds_one.ensures.valid model shown).cells MethodDef c.args.row 4 there (omega arith) in
    let one = signature_of kind.MethodDef (cell_in model MethodDef c.args.row 4) cell.of_kind in
    let bytes : Encodes kind.MethodDef one.0 c.bytes_of.result.now = rw c.bytes_of.ensures
    (encoded_by model (c.holds_one.ensures.valid model shown) kind.MethodDef (c.shortest_encodes.ensures kind.MethodDef) MethodDef c.args.row 4 there (omega arith) refl c.in_ok-bytes.bytes (c.in_ok-bytes.ensures model shown) one.0 one.1) in
    let of = type_named g.L.Limit.scopes model (c.holds_one.ensures.valid model shown) c.type_of_method.result in
    on_wrote g.W.Write.write_str_gives _ (IsReferenceBy g.L.Limit.scopes model MethodDef c.args.row 3 4) _ _ c.write_declared.result (c.write_declared.ensures model shown tt one.0 (inl bytes) of.0 of.1)
    (λ text pieces. (
      one.0,
      one.1,
      record {
        class = record { table = _; row = c.type_of_method.result };
        owner = (c.type_of_method.result, c.type_of_method.ensures.sound model shown, refl);
        own = c.text.result.now;
        is_named = c.text.ensures model shown;
        pieces = pieces;
      },
    ))
