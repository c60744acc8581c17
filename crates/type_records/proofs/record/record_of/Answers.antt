use Rattle.std.proofs.Common.{rules}
use Rattle.tables.specs.Said.{all_said}
use Rattle.type_records.specs.Kinds.{kinds_of, AreOfKinds}
use Rattle.type_records.proofs.RowLemmas.{cells_are_said}
use Rattle.type_records.proofs.record.record_of.Goals as goal

pub returns-clause-fields : goal.returns-clause-fields
returns-clause-fields g c =
    let kinds : AreOfKinds (kinds_of g.R.FromRow.TABLE) (all_said c.args.cells.now) = search rules in
    cells_are_said c.args.cells.now (kinds_of g.R.FromRow.TABLE) (g.R.FromRow.fields c.from_row.result) kinds c.from_row.ensures
