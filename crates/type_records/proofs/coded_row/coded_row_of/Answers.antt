use Rattle.std.proofs.Common.{rules}
use Rattle.tables.specs.Said.{all_said}
use Rattle.type_records.specs.Kinds.{kinds_of, AreOfKinds}
use Rattle.type_records.proofs.RowLemmas.{cells_are_said}
use Rattle.type_records.proofs.coded_row.coded_row_of.Goals as goal

pub returns-clause-fields : goal.returns-clause-fields
returns-clause-fields g c =
    let kinds : AreOfKinds (kinds_of c.args.table) (all_said c.args.cells.now) = search rules in
    cells_are_said c.args.cells.now (kinds_of c.args.table) (g.R.CodedRow.fields c.from_row_of.result) kinds c.from_row_of.ensures.said
