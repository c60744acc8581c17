use Rattle.declarations.proofs.Prelude.{arith, refl, inl, inr, Property, cell_columns, property, Encodes, as_method, HasRow, IsPropertyDeclarationBy, encoded_by, on_wrote}
use Rattle.table_schema.specs.declared.column.SigKind.TheVariants as kind
use Rattle.declarations.proofs.ClassNames.{type_named}
use Rattle.declarations.proofs.methods.write_property_within.Goals as goal

pub returns : goal.returns
unfolding cell_columns
returns g c = record {
  text = λ model shown this of params is.
      let rows = c.holds_one.ensures.rows model shown Property in
      let there : HasRow model Property c.args.row = (c.requires.first, omega (arith, rows, c.requires.last)) in
      let bytes : Encodes kind.Property (property this of params) c.bytes_of.result.now = rw c.bytes_of.ensures
      (encoded_by model (c.holds_one.ensures.valid model shown) kind.Property (c.shortest_encodes.ensures kind.Property) Property c.args.row 2 there (omega arith) refl c.in_ok-bytes.bytes (c.in_ok-bytes.ensures model shown) (property this of params) is) in
      let map = c.type_of_property.ensures.sound model shown in
      let type = type_named g.L.Limit.scopes model (c.holds_one.ensures.valid model shown) c.type_of_property.result in
      on_wrote g.W.Write.write_str_gives _ (IsPropertyDeclarationBy g.L.Limit.scopes model c.args.row (as_method this of params)) _ _ c.write_declared.result
      (c.write_declared.ensures model shown tt (property this of params) (inr (inl bytes)) type.0 type.1)
      (λ text pieces. record {
        class = record { table = _; row = c.type_of_property.result };
        member = (c.type_of_property.result, map.0, map.1, map.2, refl);
        own = c.text.result.now;
        is_named = c.text.ensures model shown;
        pieces = pieces;
      });
}
