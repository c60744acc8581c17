use Rattle.cli_arguments.proofs.Prelude.{◌≡◌, ◌∙◌, ◌&&◌, Bool, ap, false, not, refl, subst, true, IfOk-weaker, clim}
use Rattle.std.specs.Prelude.{IfOk, map}
use Rattle.clap.proofs.CallerLemmas.{subcommand_required}
use Rattle.cli_arguments.proofs.KnownNames.{clim_is_free}
use Rattle.clap.specs.Words.{App, FailsBy, HasMatchesOf, fault_of, is_simple_and_free}
use Rattle.cli_arguments.proofs.arguments.matches_of.Goals as goal

third_false : (a b c d : Bool) → (a && (not b && (not c && d))) ≡ true → c ≡ false
third_false a b false d e = refl
third_false true false true d e = cc
third_false true true true d e = cc
third_false false b true d e = cc

pub returns-clause-matches : goal.returns-clause-matches
returns-clause-matches c =
    subst (λ (a : App). IfOk c.try_get_matches_from.result (HasMatchesOf a (map (λ word. word.now) c.args.words.now))) c.in_ok-command.ensures
    c.try_get_matches_from.ensures.matches

pub returns-clause-subcommand : goal.returns-clause-subcommand
unfolding clim
returns-clause-subcommand c =
    IfOk-weaker c.try_get_matches_from.result _ _
    (λ m parsed. subcommand_required c.in_ok-command.field-0 m parsed
    (third_false _ _ _ _ (ap (λ (a : App). a.top.is_plain) c.in_ok-command.ensures))
    (ap (λ (a : App). a.top.subcommand_required) c.in_ok-command.ensures)) c.try_get_matches_from.ensures.parsed

pub returns-clause-refused : goal.returns-clause-refused
returns-clause-refused c =
    subst (λ (a : App). FailsBy (fault_of a (map (λ word. word.now) c.args.words.now)) c.try_get_matches_from.result) c.in_ok-command.ensures
    (c.try_get_matches_from.ensures.kinds (ap is_simple_and_free c.in_ok-command.ensures ∙ clim_is_free))
