use Rattle.c_values.proofs.Prelude.{take, IsGiven}
use Rattle.c_values.proofs.read_rows.read_tables.Given as goal

-- the rows so far are the first rows that are given
abbrev pub invariant-loop-row : goal.invariant-loop-row
invariant-loop-row l = IsGiven l.version l.user (take l.row-index l.rows) l.tables
