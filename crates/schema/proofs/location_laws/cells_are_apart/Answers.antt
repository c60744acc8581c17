use Rattle.schema.proofs.ApartLemmas.{one_column, one_row_of, one_table}
use Rattle.schema.proofs.location_laws.cells_are_apart.Goals as goal

pub returns : goal.returns
returns c = record {
  table = one_table c.tables_stand.ensures.count c.tables_stand.ensures.table_index c.tables_stand.ensures.stand;
  row = one_row_of c.tables_stand.ensures.count c.tables_stand.ensures.table_index c.tables_stand.ensures.stand;
  column = one_column c.tables_stand.ensures.count c.tables_stand.ensures.table_index c.tables_stand.ensures.stand;
}
