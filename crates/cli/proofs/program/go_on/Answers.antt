use Rattle.std.proofs.Common.{inl, inr}
use Rattle.clap.specs.Words.{kind_of}
use Rattle.cli.proofs.program.go_on.Goals as goal

pub returns-in-Ok-clause-run : goal.returns-in-Ok-clause-run
returns-in-Ok-clause-run g c = inl (c.in-Ok.ask, c.in-Ok.ensures.given, c.run.ensures.does)

pub returns-in-Ok-clause-quiet : goal.returns-in-Ok-clause-quiet
returns-in-Ok-clause-quiet g c =
    λ success. elim (c.run.ensures.quiet success) [ inl same ↦ inl same | inr warns ↦ inr (c.in-Ok.ask, c.in-Ok.ensures.given, warns) ]

pub returns-in-Err-clause-run : goal.returns-in-Err-clause-run
returns-in-Err-clause-run g c = inr (kind_of c.in-Err.usage_error, c.in-Err.ensures.refused, c.report_usage_error.ensures.usage)
