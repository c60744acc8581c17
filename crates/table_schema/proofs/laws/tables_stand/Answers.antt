use Rattle.table_schema.proofs.TableFacts.{length-tables, table_index_below, number_below, table_at_index}
use Rattle.table_schema.proofs.TableOrder.{numbers_rise}
use Rattle.table_schema.proofs.laws.tables_stand.Goals as goal

pub returns : goal.returns
returns c = record { count = length-tables; table_index = table_index_below; number = number_below; stand = table_at_index; rise = numbers_rise }
