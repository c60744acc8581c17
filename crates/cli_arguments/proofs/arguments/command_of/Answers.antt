use Rattle.std.proofs.Common.{◌∙◌, ◌||◌, List, ap, ap₂, map, sym}
use Rattle.cli_arguments.proofs.Prelude.{map_more, take_all, app_of_fields}
use Rattle.clap.specs.Words.{App, Shape, new_app, with_rule}
use Rattle.cli_arguments.specs.CommandLine as line
use Rattle.cli_arguments.specs.declared.argument.Argument.{Argument}
use Rattle.cli_arguments.proofs.arguments.command_of.Invariants.{app_with}
use Rattle.cli_arguments.proofs.arguments.command_of.Goals as goal

pub loop-argument-init : goal.loop-argument-init
loop-argument-init c = (
  ap app_of_fields c.after_long_help-command.ensures ∙ ap app_of_fields c.about.ensures ∙ c.new.ensures.app
      ∙ ap (λ (s : Shape). new_app s.name) c.usage_of-usage.ensures,
  rw (c.after_long_help-command.ensures, c.about.ensures) c.new.ensures.local,
)

pub loop-argument-preserved : goal.loop-argument-preserved
loop-argument-preserved c =
    let before = c.loop-argument.invariant in (
      c.in_ok-command.ensures.shape c.arg_of.ensures.local ∙ ap₂ with_rule before.0 c.arg_of.ensures.rule
          ∙ ap (app_with c.args.subcommand)
          (sym (map_more line.rule c.usage_of-usage.result.arguments.now c.loop-argument.argument-index _ c.loop-argument-test.true)),
      c.in_ok-command.ensures.globals ∙ ap₂ ◌||◌ before.1 c.arg_of.ensures.local,
    )

pub returns-clause-shape : goal.returns-clause-shape
returns-clause-shape c =
    let arguments = c.usage_of-usage.result.arguments.now in
    let all = take_all c.loop-argument.argument-index arguments c.loop-argument-test.false in
    ap (λ (a : App). a.top) c.loop-argument.invariant.0
    ∙ ap (λ (given : List Argument). line.shape_with (line.name_of c.args.subcommand) (map line.rule given)) all
    ∙ ap (λ (s : Shape). line.shape_with s.name (map line.rule arguments)) (sym c.usage_of-usage.ensures) ∙ c.usage_of-usage.ensures
