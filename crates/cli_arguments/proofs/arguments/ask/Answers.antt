use Rattle.std.proofs.Common.{◌∙◌, Some, ap, map, sym}
use Rattle.clap.specs.Words.{Text, found_of, rows_of}
use Rattle.cli_arguments.proofs.KnownNames.{clim_is_simple, is_known}
use Rattle.cli_arguments.proofs.Readings.{named_back, rows_met}
use Rattle.cli_arguments.proofs.arguments.ask.Goals as goal

pub unwrap-subcommand-requires : goal.unwrap-subcommand-requires
unwrap-subcommand-requires c =
    let found = sym (c.in_ok-matches.ensures.matches clim_is_simple).1
    ∙ rows_met (λ p. p.0.now) (λ p. rows_of (found_of p.1.now)) c.in_ok-matches.matches _ _ c.unwrap.ensures c.subcommand.ensures.name c.subcommand.ensures.rows in
    rw c.named.ensures (is_known (map (λ word. word.now) c.args.words.now) _ _ c.in_ok-matches.ensures.refused found)

pub returns-clause-given : goal.returns-clause-given
returns-clause-given c =
    let found = sym (c.in_ok-matches.ensures.matches clim_is_simple).1
    ∙ rows_met (λ p. p.0.now) (λ p. rows_of (found_of p.1.now)) c.in_ok-matches.matches _ _ c.unwrap.ensures c.subcommand.ensures.name c.subcommand.ensures.rows in
    let word = named_back c.unwrap.result.0.now c.unwrap-subcommand.result (sym c.named.ensures ∙ c.unwrap-subcommand.ensures) in
    c.in_ok-asked.ensures (map (λ word. word.now) c.args.words.now)
    (found ∙ ap (λ (n : Text). Some (n, rows_of (found_of c.unwrap.result.1.now))) word)
