use Rattle.c_texts.proofs.Prelude.{◌++◌, refl, arith, codes, Field, cell_columns, Encodes, HasRow, cell_in, encoded_by, signature_of}
use Rattle.table_schema.specs.declared.column.SigKind.TheVariants as kind
use Rattle.full_names.specs.declared.quoted.NameKind.TheVariants.{Dotted}
use Rattle.full_names.specs.Quoted.{name_text}
use Rattle.full_names.proofs.TextLemmas.{writes_append}
use Rattle.c_texts.proofs.row_text.write_field.Goals as goal

pub returns : goal.returns
unfolding cell_columns
returns g c = λ model is.
    let took = g.W.Write.write_str_gives in
    let row = c.args.row in
    let rows = c.holds_one.ensures.rows model is Field in
    let there : HasRow model Field row = (c.requires.first, omega (arith, rows, c.requires.last)) in
    let valid = c.holds_one.ensures.valid model is in
    let of = signature_of kind.Field (cell_in model Field row 2) (valid.cells Field row 2 there (omega arith)).of_kind in
    let encodes : Encodes kind.Field of.0 c.bytes_of.result.now = rw c.bytes_of.ensures
    (encoded_by model valid kind.Field (c.shortest_encodes.ensures kind.Field) Field row 2 there (omega arith) refl c.in_ok-bytes.bytes (c.in_ok-bytes.ensures model is) of.0 of.1) in
    let before = c.in_ok-write_signature_text.ensures model is of.0 encodes in
    let own = name_text Dotted c.text-name.result.now in
    let after = writes_append took c.write_signature_text.new.out (codes " ") c.write_text.new.out own c.write_name.new.out c.in_ok-write_text.ensures c.in_ok-write_name.ensures in (
      before.0 ++ (codes " " ++ own),
      record {
        signature = of.0;
        is_signature = of.1;
        before = before.0;
        is_before = rw c.requires.omitted at before.1;
        own = c.text-name.result.now;
        is_own = c.text-name.ensures model is;
        whole = refl;
      },
      writes_append took c.args.out.now before.0 c.write_signature_text.new.out (codes " " ++ own) c.write_name.new.out before.2 after,
    )
