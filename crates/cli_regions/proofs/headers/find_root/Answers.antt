use Rattle.cli_regions.proofs.HeaderLemmas.{root_headers_begin}
use Rattle.cli_regions.proofs.Prelude.{and_then, root_header_regions}
use Rattle.cli_regions.proofs.headers.find_root.Goals as goal

pub u32_at-version_size-requires : goal.u32_at-version_size-requires
u32_at-version_size-requires c = c.requires.rules.1.0.0

pub find_stream_parts-requires-clause-small : goal.find_stream_parts-requires-clause-small
find_stream_parts-requires-clause-small c =
    rw (c.headers.ensures, c.requires.directory) (root_headers_begin c.args.root.now (c.roots_are_read.ensures.sound c.args.root.now c.requires.rules))

pub find_stream_parts-requires-2-clause-small : goal.find_stream_parts-requires-2-clause-small
find_stream_parts-requires-2-clause-small c =
    rw (c.headers-2.ensures, c.requires.directory) (root_headers_begin c.args.root.now (c.roots_are_read.ensures.sound c.args.root.now c.requires.rules))

pub find_streams-requires-clause-small : goal.find_streams-requires-clause-small
find_streams-requires-clause-small c = let is = c.roots_are_read.ensures.sound c.args.root.now c.requires.rules in rw c.requires.directory is.0

pub returns : goal.returns
unfolding root_header_regions
returns c =
    let header = rw c.u32_at-version_size.ensures.value at (and_then c.look.ensures (and_then c.find_fields.ensures (and_then c.look-2.ensures c.find_fields-2.ensures))) in
    and_then (and_then (and_then header (rw (c.headers.ensures, c.requires.directory) at c.find_stream_parts.ensures))
    (rw (c.headers-2.ensures, c.requires.directory) at c.find_stream_parts-2.ensures))
    (rw c.requires.directory at c.find_streams.ensures)
