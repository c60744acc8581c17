use Rattle.std.proofs.Common.{◌≡◌, map, take}
use Rattle.cli_runs.proofs.files.names_of.Given as goal

abbrev pub invariant-loop-file : goal.invariant-loop-file
invariant-loop-file l = map (λ name. name.now) l.names.items ≡ map (λ file. file.now) (take l.file-index l.fn.files)
