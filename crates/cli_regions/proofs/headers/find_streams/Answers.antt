use Rattle.cli_regions.proofs.Prelude.{adds_none, and_then}
use Rattle.cli_regions.proofs.headers.find_streams.Goals as goal

pub returns : goal.returns
returns c =
    and_then c.find_stream.ensures (and_then c.find_stream-2.ensures (and_then c.find_stream-3.ensures
    (and_then c.find_stream-4.ensures (and_then c.find_stream-5.ensures (adds_none c.find_stream-5.new.found)))))
