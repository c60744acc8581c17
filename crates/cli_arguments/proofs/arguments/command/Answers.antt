use Rattle.cli_arguments.proofs.Prelude.{◌≡◌, ◌∙◌, ap, ap₂, codes, sym, true, take_all, app_of, app_of_fields, new_app, on_top, with_subcommand, clim}
use Rattle.std.specs.List.{fold}
use Rattle.std.proofs.lemmas.List.Sums.{fold_more}
use Rattle.cli_arguments.specs.CommandLine as line
use Rattle.cli_arguments.proofs.arguments.command.Invariants.{with_one}
use Rattle.cli_arguments.proofs.arguments.command.Goals as goal

pub loop-subcommand-init : goal.loop-subcommand-init
loop-subcommand-init c =
    let versioned : app_of c.version.result ≡ on_top (λ s. record s { has_version = true }) (new_app (codes "clim")) =
    ap app_of_fields c.version.ensures ∙ ap (on_top (λ s. record s { has_version = true })) c.new.ensures.app in
    let long : app_of c.override_help.result ≡ on_top (λ s. record s { has_version = true; has_long_version = true }) (new_app (codes "clim")) =
    ap app_of_fields c.override_help.ensures ∙ ap app_of_fields c.long_version.ensures ∙ ap (on_top (λ s. record s { has_long_version = true })) versioned in
    ap app_of_fields c.subcommand_required-program.ensures ∙ ap (on_top (λ s. record s { subcommand_required = true })) long

pub loop-subcommand-preserved : goal.loop-subcommand-preserved
loop-subcommand-preserved c =
    c.in_ok-program.ensures.shape c.in_ok-command_of.ensures.local ∙ ap₂ with_subcommand c.loop-subcommand.invariant c.in_ok-command_of.ensures.shape
    ∙ sym (fold_more with_one line.without_subcommands line.subcommands c.loop-subcommand.subcommand-index _ c.loop-subcommand-test.true)

pub returns : goal.returns
unfolding clim
returns c = c.loop-subcommand.invariant ∙ ap (fold with_one line.without_subcommands) (take_all c.loop-subcommand.subcommand-index line.subcommands c.loop-subcommand-test.false)
