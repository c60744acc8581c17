use Rattle.table_schema.proofs.CellColumnLemmas.{same_column}
use Rattle.table_schema.proofs.cell_columns.column_of_cell.Goals as goal

pub returns-in_default : goal.returns-in_default
returns-in_default c = let same = same_column c.args.table c.in_default.not-Constant c.args.cell c.requires in record { value = same.0; within = same.1 }
