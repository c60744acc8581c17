use Rattle.custom_attributes.proofs.Prelude.{arith, items_of}
use Rattle.table_schema.specs.declared.column.SigKind.TheVariants as column
use Rattle.custom_attributes.proofs.LengthLemmas.{short_encoding}
use Rattle.custom_attributes.proofs.TypeLemmas.{many_items}
use Rattle.custom_attributes.proofs.enums.type_in.Goals as goal

pub returns-then-blob-gt-LONGEST : goal.returns-then-blob-gt-LONGEST
returns-then-blob-gt-LONGEST c = λ signature encodes.
    let same = c.items_are_encoded.ensures.encoded signature (c.encoded_is_encodable.ensures column.Field signature c.args.blob.now encodes) in
    let short = short_encoding column.Field signature c.args.blob.now encodes same in
    let long = c.if-blob-gt-LONGEST.true in
    many_items (items_of signature) (omega (arith, long, short))
