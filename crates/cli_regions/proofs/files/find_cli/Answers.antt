use Rattle.cli_regions.proofs.Prelude.{and_then, cli_regions}
use Rattle.cli_regions.proofs.files.find_cli.Goals as goal

pub returns : goal.returns
unfolding cli_regions
returns c =
    and_then (and_then (and_then (and_then (and_then (and_then c.find_header.ensures c.find_named.ensures) c.find_named-2.ensures)
    c.find_named-3.ensures) c.find_named-4.ensures) c.find_named-5.ensures) c.find_named-6.ensures
