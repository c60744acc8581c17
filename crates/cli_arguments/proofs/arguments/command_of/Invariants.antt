use Rattle.std.proofs.Common.{◌≡◌, List, [], false, map, take}
use Rattle.clap.specs.Words.{App, Rule, app_of}
use Rattle.clap.specs.declared.Command.TheViews.{out-Command as fields_of}
use Rattle.cli_arguments.specs.CommandLine as line
use Rattle.cli_arguments.specs.declared.asked.Subcommand.{Subcommand}
use Rattle.cli_arguments.proofs.arguments.command_of.Given as goal

abbrev pub app_with : Subcommand → List Rule → App
app_with of rules = record { top = line.shape_with (line.name_of of) rules; subs = [] }

abbrev pub invariant-loop-argument : goal.invariant-loop-argument
invariant-loop-argument l =
    (app_of l.command ≡ app_with l.fn.subcommand (map line.rule (take l.argument-index l.argument-items)))
    × ((fields_of l.command).has_globals ≡ false)
