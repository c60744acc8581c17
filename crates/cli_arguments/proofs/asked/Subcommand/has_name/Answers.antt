use Rattle.cli_arguments.proofs.Prelude.{◌∙◌, ap, bytes_eq}
use Rattle.clap.specs.Words.{Shape}
use Rattle.cli_arguments.proofs.asked.Subcommand.has_name.Goals as goal

pub returns : goal.returns
returns c = c.eq.ensures ∙ ap (λ (s : Shape). bytes_eq c.args.word.now s.name) c.usage_of.ensures
