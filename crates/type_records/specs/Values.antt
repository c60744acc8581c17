-- The contents of the fields of a record, independent of memory layout (ECMA-335 II.22).
use Rattle.metadata.specs.Cell as says
use Rattle.metadata.specs.Cell.{Cell}
use Rattle.type_records.specs.declared.field_value.FieldValue.{FieldValue}
use Rattle.type_records.specs.declared.field_value.FieldValue.TheVariants.{Number, Text, Bytes, Guid, Ref, Start, Sig}

-- the cell with the content of a field
abbrev pub reported : FieldValue → Cell
reported (Number number) = says.Number number
reported (Text text) = says.Text text.now
reported (Bytes bytes) = says.Bytes bytes.now
reported (Guid guid) = says.Guid guid
reported (Ref reference) = says.Ref reference
reported (Start row) = says.Start row
reported (Sig signature) = says.Sig signature.now
