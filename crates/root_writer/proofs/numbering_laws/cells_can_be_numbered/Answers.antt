use Rattle.root_writer.proofs.ReadyLemmas.{no_nul, ready_at, rows_ready}
use Rattle.root_writer.proofs.numbering_laws.cells_can_be_numbered.Goals as goal

pub returns-clause-texts : goal.returns-clause-texts
returns-clause-texts c model valid = no_nul model c.tables_stand.ensures.count valid

pub returns-clause-cell : goal.returns-clause-cell
returns-clause-cell c model valid table row cell_index there within = ready_at model valid table row cell_index there within

pub returns-clause-rows : goal.returns-clause-rows
returns-clause-rows c model valid table = rows_ready model valid table
