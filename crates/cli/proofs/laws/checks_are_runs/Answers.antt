use Rattle.cli.proofs.OneCheck.{of_file}
use Rattle.cli.proofs.laws.checks_are_runs.Goals as goal

pub returns : goal.returns
returns g c =
    λ before after file status checked. of_file g.W.Write.contents before after c.whole_files_are_ok.ensures g.R.File.Read.remaining g.R.Reader.Read.remaining file status checked
