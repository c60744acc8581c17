use Rattle.std.proofs.Common.{arith}
use Rattle.std.proofs.lemmas.Grind.{common_steps}
use Rattle.table_schema.proofs.CellColumnLemmas.{same_count}
use Rattle.table_schema.proofs.cell_columns.cell_count.Goals as goal

pub returns-in_default : goal.returns-in_default
returns-in_default c = let long = same_count c.args.table c.in_default.not-Constant in grind (arith, common_steps, long)
