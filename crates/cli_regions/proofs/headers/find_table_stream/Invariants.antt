use Rattle.cli_regions.proofs.Prelude.{◌+◌, ◌*◌, ◌≤◌, drop, counts_from, Completes}
use Rattle.cli_regions.proofs.headers.find_table_stream.Given as goal

abbrev pub invariant-loop-table : goal.invariant-loop-table
invariant-loop-table l = record {
  left : Completes l.initial.found l.found (counts_from l.valid l.next (drop l.table-index l.tables)) (counts_from l.valid l.initial.next l.tables);
  low : l.next ≤ l.initial.next + 4 * l.table-index;
}
