use Rattle.declarations.proofs.Prelude.{arith, refl, inl, MethodDef, cell_columns, method_body, Encodes, HasRow, IsDeclarationWith, generic_rows, encoded_by, on_wrote}
use Rattle.table_schema.specs.declared.column.SigKind.TheVariants as kind
use Rattle.declarations.proofs.ClassNames.{type_named}
use Rattle.declarations.proofs.methods.write_method_by.Goals as goal

pub returns : goal.returns
unfolding cell_columns
returns g c = record {
  text = λ model shown links method is.
      let rows = c.holds_one.ensures.rows model shown MethodDef in
      let there : HasRow model MethodDef c.args.row = (c.requires.first, omega (arith, rows, c.requires.last)) in
      let bytes : Encodes kind.MethodDef (method_body method) c.bytes_of.result.now = rw c.bytes_of.ensures
      (encoded_by model (c.holds_one.ensures.valid model shown) kind.MethodDef (c.shortest_encodes.ensures kind.MethodDef) MethodDef c.args.row 4 there (omega arith) refl c.in_ok-bytes.bytes (c.in_ok-bytes.ensures model shown) (method_body method) is) in
      let of = type_named g.L.Limit.scopes model (c.holds_one.ensures.valid model shown) c.type_of_method.result in
      on_wrote g.W.Write.write_str_gives _ (IsDeclarationWith (generic_rows c.args.links) g.L.Limit.scopes model c.args.row method) _ _ c.write_declared.result (c.write_declared.ensures model shown links (method_body method) (inl bytes) of.0 of.1)
      (λ text pieces. record {
        class = c.type_of_method.result;
        owner = c.type_of_method.ensures.sound model shown;
        own = c.text.result.now;
        is_named = c.text.ensures model shown;
        first = c.members_of-rows.result.start;
        past = c.members_of-rows.result.end;
        params = c.members_of-rows.ensures model shown;
        pieces = pieces;
      });
}
