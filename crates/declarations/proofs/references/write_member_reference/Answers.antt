use Rattle.declarations.proofs.Prelude.{arith, refl, inr, MemberRef, cell_columns, Encodes, HasRow, cell_in, IsReferenceBy, encoded_by, on_wrote, signature_of}
use Rattle.table_schema.specs.declared.column.SigKind.TheVariants as kind
use Rattle.declarations.proofs.references.write_member_reference.Goals as goal

pub returns : goal.returns
unfolding cell_columns
returns g c = λ model shown.
    let rows = c.holds_one.ensures.rows model shown MemberRef in
    let there : HasRow model MemberRef c.args.row = (c.requires.first, omega (arith, rows, c.requires.last)) in
    let cell = (c.holds_one.ensures.valid model shown).cells MemberRef c.args.row 2 there (omega arith) in
    let one = signature_of kind.MemberRef (cell_in model MemberRef c.args.row 2) cell.of_kind in
    let bytes : Encodes kind.MemberRef one.0 c.bytes_of.result.now = rw c.bytes_of.ensures
    (encoded_by model (c.holds_one.ensures.valid model shown) kind.MemberRef (c.shortest_encodes.ensures kind.MemberRef) MemberRef c.args.row 2 there (omega arith) refl c.in_ok-bytes.bytes (c.in_ok-bytes.ensures model shown) one.0 one.1) in
    let of = c.class_of_member.ensures.named model shown g.L.Limit.scopes in
    on_wrote g.W.Write.write_str_gives _ (IsReferenceBy g.L.Limit.scopes model MemberRef c.args.row 1 2) _ _ c.write_declared.result (c.write_declared.ensures model shown tt one.0 (inr (inr bytes)) of.0 of.1)
    (λ text pieces. (
      one.0,
      one.1,
      record {
        class = c.class_of_member.result;
        owner = c.class_of_member.ensures.class model shown;
        own = c.text.result.now;
        is_named = c.text.ensures model shown;
        pieces = pieces;
      },
    ))
