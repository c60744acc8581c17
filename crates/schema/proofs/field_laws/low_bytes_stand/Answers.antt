use Rattle.table_schema.specs.declared.column.ColumnKind.TheVariants as kind
use Rattle.table_schema.specs.Columns.{col}
use Rattle.schema.proofs.FieldLemmas.{low_bytes, low_row, fields_fit, length-fields_of, field_at}
use Rattle.schema.proofs.field_laws.low_bytes_stand.Goals as goal

pub returns : goal.returns
returns c = record {
  number = low_bytes;
  row = low_row;
  fit = fields_fit;
  count = length-fields_of;
  each = λ sizes columns numbers column. field_at sizes columns numbers column (col kind.U8);
}
