use Rattle.c_values.proofs.Prelude.{◌∙◌, ap, not_there, source_of}
use Rattle.schema.specs.Header.{sizes_of}
use Rattle.c_values.proofs.located.layout_of.Goals as goal

pub unreachable-requires : goal.unreachable-requires
unreachable-requires c = not_there c.requires.model (λ some.
    let is = c.models_are_read.ensures.stream c.args.root.now some.0 some.1 in
    c.in-Err.ensures.complete (source_of c.args.root.now).sizes is.0 (rw c.requires.stream is.1))

pub returns-clause-sizes : goal.returns-clause-sizes
returns-clause-sizes c =
    let is = c.in-Ok.ensures.sound in
    c.streams_are_read.ensures.said c.args.stream.now c.in-Ok.layout is.0 is.1 ∙ ap sizes_of c.requires.stream

pub returns-clause-end : goal.returns-clause-end
returns-clause-end c =
    let is = c.in-Ok.ensures.sound in
    c.tables_end_within.ensures c.args.stream.now c.in-Ok.layout is.0 is.1
