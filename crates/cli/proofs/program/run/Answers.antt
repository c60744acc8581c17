use Rattle.std.proofs.Common.{Ok, inl, inr}
use Rattle.cli.proofs.program.run.Goals as goal

pub returns-in-Ok-clause-does : goal.returns-in-Ok-clause-does
returns-in-Ok-clause-does g c = (Ok c.in-Ok.task, c.in-Ok.ensures, c.run_task.ensures.run)

pub returns-in-Ok-clause-quiet : goal.returns-in-Ok-clause-quiet
returns-in-Ok-clause-quiet g c =
    λ success. elim (c.run_task.ensures.quiet success) [ inl same ↦ inl same | inr warns ↦ inr (c.in-Ok.task, c.in-Ok.ensures, warns) ]
