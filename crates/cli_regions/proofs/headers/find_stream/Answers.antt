use Rattle.cli_regions.proofs.Prelude.{adds_none, stream_regions}
use Rattle.cli_regions.proofs.headers.find_stream.Goals as goal

pub returns-in-Some : goal.returns-in-Some
unfolding stream_regions
returns-in-Some c = rw (← c.in-Some.ensures.place, ← c.name.ensures) c.look.ensures

pub returns-in_default : goal.returns-in_default
unfolding stream_regions
returns-in_default c = rw (← c.in_default.ensures.place) (adds_none c.args.found.now)
