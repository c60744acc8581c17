use Rattle.cli_arguments.proofs.Prelude.{◌≡◌, take, App, app_of, with_subcommand, Subcommand}
use Rattle.std.specs.List.{fold}
use Rattle.cli_arguments.specs.CommandLine as line
use Rattle.cli_arguments.proofs.arguments.command.Given as goal

abbrev pub with_one : App → Subcommand → App
with_one above of = with_subcommand above (line.shape_of of)

abbrev pub invariant-loop-subcommand : goal.invariant-loop-subcommand
invariant-loop-subcommand l = app_of l.program ≡ fold with_one line.without_subcommands (take l.subcommand-index line.subcommands)
