use Rattle.std.proofs.Common.{◌≡◌, ◌≤◌, drop}
use Rattle.cli_runs.proofs.Running.{Completes, names_of}
use Rattle.cli_runs.proofs.files.run_each.Given as goal

abbrev pub invariant-loop-name : goal.invariant-loop-name
invariant-loop-name g l = record {
  completes : Completes l.fn.request g.W.Write.contents l.initial.is_read l.initial.out l.is_read l.out (names_of (drop l.name-index l.fn.names)) l.greatest (names_of l.fn.names);
  within : l.greatest ≤ 3;
  quiet : l.greatest ≡ 0 → l.err ≡ l.initial.err;
}
